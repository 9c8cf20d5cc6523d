-- What a host's record owes when it gives a new child.
use Rattle.std.proofs.Common.{◌≡◌, ◌≤◌, ◌<◌, ◌+◌, ℕ, zero, suc, Bool, true, false, List, [], ◌∷◌, ◌++◌, length, refl, sym, ap, ◌∙◌, inl, inr, arith, nat_eq, get_or, reverse, subst}
use Rattle.std.specs.Prelude.{Some, if◌then◌else◌}
use Rattle.std.proofs.Math.Bool.{or-true}
use Rattle.std.proofs.lemmas.Bool.{cases_lt}
use Rattle.std.proofs.lemmas.Bool.Decides.{eqb_tells}
use Rattle.std.proofs.lemmas.List.{length-append, reverse-append, get_or_past}
use Rattle.tk_edge.specs.declared.event.Event.{Event}
use Rattle.tk_edge.specs.declared.event.Event.TheVariants as events
use Rattle.tk_edge.specs.declared.event.Arming.{Arming}
use Rattle.tk_edge.specs.declared.order.Order.{Order}
use Rattle.tk_edge.specs.declared.host_log.ChildLog.{ChildLog}
use Rattle.tk_edge.specs.Files.{broken}
use Rattle.tk_edge.specs.History.{names}
use Rattle.tk_edge.specs.Memory.{is_named}
use Rattle.tk_edge.specs.HostLog.{counts, flags, blank, entry, IsIndexed, IsWhole}

pub nat_eq_true : (m n : ℕ) → m ≡ n → nat_eq m n ≡ true
nat_eq_true m n is = elim (eqb_tells m n) [
  | inl hit ↦ hit.0
  | inr miss ↦ absurd (miss.1 is)
]

nat_eq_false : (m n : ℕ) → (m ≡ n → ⊥) → nat_eq m n ≡ false
nat_eq_false m n not = elim (eqb_tells m n) [
  | inl hit ↦ absurd (not hit.1)
  | inr miss ↦ miss.0
]

pub push_at : {X : Type 0} (xs : List X) (x d : X) (n : ℕ) → get_or (xs ++ x ∷ []) n d ≡ (if nat_eq n (length xs) then x else get_or xs n d)
push_at [] x d zero = refl
push_at [] x d (suc n) = elim (eqb_tells (suc n) 0) [
  | inl hit ↦ absurd (omega (arith, hit.1))
  | inr miss ↦ rw miss.0 refl
]
push_at (y ∷ xs) x d zero = elim (eqb_tells 0 (length (y ∷ xs))) [
  | inl hit ↦ absurd (omega (arith, hit.1))
  | inr miss ↦ rw miss.0 refl
]
push_at (y ∷ xs) x d (suc n) = elim (eqb_tells (suc n) (length (y ∷ xs))) [
  | inl hit ↦ push_at xs x d n ∙ rw hit.0 (rw (nat_eq_true n (length xs) (omega (arith, hit.1))) refl)
  | inr miss ↦ push_at xs x d n ∙ rw miss.0 (rw (nat_eq_false n (length xs) (λ is. miss.1 (ap suc is))) refl)
]

push_blank : {X : Type 0} (xs : List X) (d : X) (child : ℕ) → get_or (xs ++ d ∷ []) child d ≡ get_or xs child d
push_blank xs d child = elim (eqb_tells child (length xs)) [
  | inl hit ↦ push_at xs d d child ∙ rw hit.0 (sym (get_or_past xs child d (omega (arith, hit.1))))
  | inr miss ↦ push_at xs d d child ∙ rw miss.0 refl
]

-- a new child was never watched
pub counts_push : (watches : List ℕ) → counts (watches ++ 0 ∷ []) ≡ counts watches
counts_push watches = λ i child. push_blank watches 0 child i

-- a new child isn't killed
pub flags_push : (killed : List Bool) → flags (killed ++ false ∷ []) ≡ flags killed
flags_push killed = λ i child. push_blank killed false child i

new_named : (told : List Event) (children : List ChildLog) (c : ChildLog) (e : Event) → IsIndexed told children → ((other : ℕ) → names other e ≡ nat_eq other (length children)) → (other : ℕ) → length (children ++ c ∷ []) ≤ other → is_named other (e ∷ told) ≡ false
new_named told children c e i named other past =
    let longer = length-append children (c ∷ []) in
    elim (eqb_tells other (length children)) [
      | inl same ↦ absurd (omega (arith, same.1))
      | inr differ ↦ rw (named other) (rw differ.0 (i.names other (omega arith)))
    ]

new_known : (told : List Event) (children : List ChildLog) (c : ChildLog) (e : Event) → IsIndexed told children → ((other : ℕ) → names other e ≡ nat_eq other (length children)) → (other : ℕ) → other < length (children ++ c ∷ []) → is_named other (e ∷ told) ≡ true
new_known told children c e i named other below =
    let longer = length-append children (c ∷ []) in
    elim (eqb_tells other (length children)) [
      | inl same ↦ rw (named other) (rw same.0 refl)
      | inr differ ↦ (let older : other < length children = before differ.1 longer in rw (i.known other older, or-true) refl)
    ]
  where
    before : (other ≡ length children → ⊥) → length (children ++ c ∷ []) ≡ length children + 1 → other < length children
    before differ longer = elim (cases_lt other (length children)) [
      | inl less ↦ less
      | inr least ↦ absurd (differ (omega arith))
    ]

-- the entry of a child that is armed
abbrev armed_log : Arming → List ℕ → ChildLog
armed_log arming failed = record blank { armed = Some arming; failed = Some failed }

-- the new child is armed
pub indexed_armed : (told : List Event) (children : List ChildLog) (arming : Arming) → IsIndexed told children → IsIndexed (events.Armed (length children) arming ∷ told) (children ++ (armed_log arming (broken arming.wait)) ∷ [])
indexed_armed told children arming i = record {
  armings = λ other. elim (eqb_tells other (length children)) [
    | inl hit ↦ rw hit.0 (sym (ap (λ (e : ChildLog). e.armed) (at other hit.0)))
    | inr miss ↦ rw miss.0 (i.armings other ∙ sym (ap (λ (e : ChildLog). e.armed) (away other miss.0)))
  ];
  failures = λ other. elim (eqb_tells other (length children)) [
    | inl hit ↦ rw hit.0 (sym (ap (λ (e : ChildLog). e.failed) (at other hit.0)))
    | inr miss ↦ rw miss.0 (i.failures other ∙ sym (ap (λ (e : ChildLog). e.failed) (away other miss.0)))
  ];
  starts = λ other. elim (eqb_tells other (length children)) [
    | inl hit ↦ i.starts other ∙ ap (λ (e : ChildLog). e.started) (past other hit.1) ∙ sym (ap (λ (e : ChildLog). e.started) (at other hit.0))
    | inr miss ↦ i.starts other ∙ sym (ap (λ (e : ChildLog). e.started) (away other miss.0))
  ];
  exits = λ other. elim (eqb_tells other (length children)) [
    | inl hit ↦ i.exits other ∙ ap (λ (e : ChildLog). e.exit) (past other hit.1) ∙ sym (ap (λ (e : ChildLog). e.exit) (at other hit.0))
    | inr miss ↦ i.exits other ∙ sym (ap (λ (e : ChildLog). e.exit) (away other miss.0))
  ];
  refusals = λ other. elim (eqb_tells other (length children)) [
    | inl hit ↦ i.refusals other ∙ ap (λ (e : ChildLog). e.refused) (past other hit.1) ∙ sym (ap (λ (e : ChildLog). e.refused) (at other hit.0))
    | inr miss ↦ i.refusals other ∙ sym (ap (λ (e : ChildLog). e.refused) (away other miss.0))
  ];
  names = new_named told children c (events.Armed (length children) arming) i (λ _. refl);
  known = new_known told children c (events.Armed (length children) arming) i (λ _. refl);
}
  where
    c : ChildLog
    c = armed_log arming (broken arming.wait)

    at : (other : ℕ) → nat_eq other (length children) ≡ true → entry (children ++ c ∷ []) other ≡ c
    at other hit = push_at children c blank other ∙ rw hit refl

    away : (other : ℕ) → nat_eq other (length children) ≡ false → entry (children ++ c ∷ []) other ≡ entry children other
    away other miss = push_at children c blank other ∙ rw miss refl

    past : (other : ℕ) → other ≡ length children → entry children other ≡ blank
    past other is = get_or_past children other blank (omega arith)

-- the new child was started
pub indexed_started : (told : List Event) (children : List ChildLog) (order : Order) → IsIndexed told children → IsIndexed (events.Started (length children) order ∷ told) (children ++ (record blank { started = true }) ∷ [])
indexed_started told children order i = record {
  armings = λ other. elim (eqb_tells other (length children)) [
    | inl hit ↦ i.armings other ∙ ap (λ (e : ChildLog). e.armed) (past other hit.1) ∙ sym (ap (λ (e : ChildLog). e.armed) (at other hit.0))
    | inr miss ↦ i.armings other ∙ sym (ap (λ (e : ChildLog). e.armed) (away other miss.0))
  ];
  failures = λ other. elim (eqb_tells other (length children)) [
    | inl hit ↦ i.failures other ∙ ap (λ (e : ChildLog). e.failed) (past other hit.1) ∙ sym (ap (λ (e : ChildLog). e.failed) (at other hit.0))
    | inr miss ↦ i.failures other ∙ sym (ap (λ (e : ChildLog). e.failed) (away other miss.0))
  ];
  starts = λ other. elim (eqb_tells other (length children)) [
    | inl hit ↦ rw hit.0 (sym (ap (λ (e : ChildLog). e.started) (at other hit.0)))
    | inr miss ↦ rw miss.0 (i.starts other ∙ sym (ap (λ (e : ChildLog). e.started) (away other miss.0)))
  ];
  exits = λ other. elim (eqb_tells other (length children)) [
    | inl hit ↦ i.exits other ∙ ap (λ (e : ChildLog). e.exit) (past other hit.1) ∙ sym (ap (λ (e : ChildLog). e.exit) (at other hit.0))
    | inr miss ↦ i.exits other ∙ sym (ap (λ (e : ChildLog). e.exit) (away other miss.0))
  ];
  refusals = λ other. elim (eqb_tells other (length children)) [
    | inl hit ↦ i.refusals other ∙ ap (λ (e : ChildLog). e.refused) (past other hit.1) ∙ sym (ap (λ (e : ChildLog). e.refused) (at other hit.0))
    | inr miss ↦ i.refusals other ∙ sym (ap (λ (e : ChildLog). e.refused) (away other miss.0))
  ];
  names = new_named told children c (events.Started (length children) order) i (λ _. refl);
  known = new_known told children c (events.Started (length children) order) i (λ _. refl);
}
  where
    c : ChildLog
    c = record blank { started = true }

    at : (other : ℕ) → nat_eq other (length children) ≡ true → entry (children ++ c ∷ []) other ≡ c
    at other hit = push_at children c blank other ∙ rw hit refl

    away : (other : ℕ) → nat_eq other (length children) ≡ false → entry (children ++ c ∷ []) other ≡ entry children other
    away other miss = push_at children c blank other ∙ rw miss refl

    past : (other : ℕ) → other ≡ length children → entry children other ≡ blank
    past other is = get_or_past children other blank (omega arith)

grow : {X : Type 0} (now xs : List X) (children after : List ChildLog) (x : X) (c : ChildLog) → now ≡ xs ++ x ∷ [] → after ≡ children ++ c ∷ [] → length xs ≡ length children → length now ≡ length after
grow now xs children after x c longer grows same =
    let ones = length-append xs (x ∷ []) in
    let others = length-append children (c ∷ []) in
    rw (longer, grows) (omega (arith, ones, others, same))

pub armed_index : (told now : List Event) (children after : List ChildLog) (watches later : List ℕ) (killed marks : List Bool) (child : ℕ) (arming kept : Arming) (failed : List ℕ) → IsWhole (reverse told) children killed watches → now ≡ told ++ events.Armed child arming ∷ [] → child ≡ length children → kept ≡ arming → failed ≡ broken kept.wait → after ≡ children ++ (armed_log kept failed) ∷ [] → marks ≡ killed ++ false ∷ [] → later ≡ watches ++ 0 ∷ [] → IsWhole (reverse now) after marks later
armed_index told now children after watches later killed marks child arming kept failed i tells number copied made grows marked counted =
    let copy : IsIndexed (events.Armed (length children) arming ∷ reverse told) (children ++ (armed_log kept (broken kept.wait)) ∷ []) =
    subst (λ (a : Arming). IsIndexed (events.Armed (length children) arming ∷ reverse told) (children ++ (armed_log a (broken a.wait)) ∷ [])) (sym copied) (indexed_armed (reverse told) children arming i.index) in
    let index : IsIndexed (events.Armed child arming ∷ reverse told) (children ++ (armed_log kept failed) ∷ []) =
    subst (λ (n : ℕ). IsIndexed (events.Armed n arming ∷ reverse told) (children ++ (armed_log kept failed) ∷ [])) (sym number)
    (subst (λ (f : List ℕ). IsIndexed (events.Armed (length children) arming ∷ reverse told) (children ++ (armed_log kept f) ∷ [])) (sym made) copy) in
    record {
      index = rw (tells, reverse-append, grows) index;
      marked = grow marks killed children after false _ marked grows i.marked;
      watched = grow later watches children after 0 _ counted grows i.watched;
    }

pub started_index : (told now : List Event) (children after : List ChildLog) (watches later : List ℕ) (killed marks : List Bool) (child : ℕ) (order : Order) → IsWhole (reverse told) children killed watches → now ≡ told ++ events.Started child order ∷ [] → child ≡ length children → after ≡ children ++ (record blank { started = true }) ∷ [] → marks ≡ killed ++ false ∷ [] → later ≡ watches ++ 0 ∷ [] → IsWhole (reverse now) after marks later
started_index told now children after watches later killed marks child order i tells number grows marked counted =
    let index : IsIndexed (events.Started child order ∷ reverse told) (children ++ (record blank { started = true }) ∷ []) =
    subst (λ (n : ℕ). IsIndexed (events.Started n order ∷ reverse told) (children ++ (record blank { started = true }) ∷ [])) (sym number) (indexed_started (reverse told) children order i.index) in
    record {
      index = rw (tells, reverse-append, grows) index;
      marked = grow marks killed children after false _ marked grows i.marked;
      watched = grow later watches children after 0 _ counted grows i.watched;
    }
