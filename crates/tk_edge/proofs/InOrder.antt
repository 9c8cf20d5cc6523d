-- A host's history stays in order under a kubelet's calls.
use Rattle.std.proofs.Common.{◌≡◌, ◌≢◌, ℕ, zero, suc, ◌<◌, ◌^◌, List, [], ◌∷◌, Some, None, Bool, true, false, refl, sym, ◌∙◌, ap, subst, inl, inr, arith, nat_eq}
use Rattle.std.proofs.lemmas.Bool.{cases_Bool, cases_lt, eqb-true, eq-eqb}
use Rattle.std.proofs.Math.Bool.{and-false}
use Rattle.std.proofs.lemmas.Option.{same_Some}
use Rattle.std.proofs.lemmas.Slice.Eq.{bytes_eq-Decides}
use Rattle.std.specs.Prelude.{bytes_eq}
use Rattle.tk_pod.specs.Exits.{passes, continues}
use Rattle.tk_edge.specs.declared.order.Order.{Order}
use Rattle.tk_edge.specs.declared.order.Watch.{Watch}
use Rattle.tk_edge.specs.declared.order.Watch.TheVariants as watches
use Rattle.tk_edge.specs.declared.event.Event.{Event}
use Rattle.tk_edge.specs.declared.event.Event.TheVariants as events
use Rattle.tk_edge.specs.declared.event.Arming.{Arming}
use Rattle.tk_edge.specs.History.{Has, IsNew, exit_of, order_of, arming_of, was_put, MayStart, StillWaits, StartsArmed, Fits, IsTold}
use Rattle.tk_edge.specs.Calls.{TellsTurn, TellsExit}
use Rattle.tk_edge.specs.InOrder.{Claimed, Pods, NotStarted, StepPassed, IsDue, AreStartsDue, IsSettled, Layout, IsLayout, ArmsStep, AreStartsArmed, IsKept}

-- a new number has no order, arming or exit

pub order_new : (child : ℕ) (h : List Event) → IsNew child h → order_of child h ≡ None
order_new child [] new = refl
order_new child (events.Started other order ∷ older) new = rw new.0 (order_new child older new.1)
order_new child (_ ∷ older) new = order_new child older new.1

pub arming_new : (child : ℕ) (h : List Event) → IsNew child h → arming_of child h ≡ None
arming_new child [] new = refl
arming_new child (events.Armed other arming ∷ older) new = rw new.0 (arming_new child older new.1)
arming_new child (_ ∷ older) new = arming_new child older new.1

-- what is told of a child stays

not_yet : (child : ℕ) (order : Order) (h : List Event) → Fits (events.Started child order) h → order_of child h ≡ None
not_yet child order h (inl new) = order_new child h new
not_yet child order h (inr armed) = armed.waited.not_started

pub order_stays : (child : ℕ) (o : Order) (e : Event) (h : List Event) → Fits e h → order_of child h ≡ Some o → order_of child (e ∷ h) ≡ Some o
order_stays child o (events.Started other order) h fits is = elim (cases_Bool (nat_eq child other)) [
  | inl hit ↦
      let none : order_of child h ≡ None = rw (eqb-true child other hit) (not_yet other order h fits) in
      cc
  | inr miss ↦ rw miss is
]
order_stays child o _ h fits is = is

pub exit_stays : (child exit : ℕ) (e : Event) (h : List Event) → Fits e h → exit_of child h ≡ Some exit → exit_of child (e ∷ h) ≡ Some exit
exit_stays child exit (events.Exited other now) h fits is = elim (cases_Bool (nat_eq child other)) [
  | inl hit ↦
      let none : exit_of child h ≡ None = rw (eqb-true child other hit) fits.no_exit in
      cc
  | inr miss ↦ rw miss is
]
exit_stays child exit _ h fits is = is

pub arming_stays : (child : ℕ) (a : Arming) (e : Event) (h : List Event) → Fits e h → arming_of child h ≡ Some a → arming_of child (e ∷ h) ≡ Some a
arming_stays child a (events.Armed other arming) h fits is = elim (cases_Bool (nat_eq child other)) [
  | inl hit ↦
      let none : arming_of child h ≡ None = rw (eqb-true child other hit) (arming_new other h fits) in
      cc
  | inr miss ↦ rw miss is
]
arming_stays child a _ h fits is = is

pub step_stays : (keep : ℕ) (pod : List ℕ) (step : ℕ) (e : Event) (h : List Event) → Fits e h → StepPassed keep pod step h → StepPassed keep pod step (e ∷ h)
step_stays keep pod step e h fits s = record {
  child = s.child;
  order = s.order;
  started = order_stays s.child s.order e h fits s.started;
  same_pod = s.same_pod;
  same_step = s.same_step;
  exit = s.exit;
  exited = exit_stays s.child s.exit e h fits s.exited;
  passed = s.passed;
}

pub due_stays : (pods : Pods) (o : Order) (e : Event) (h : List Event) → Fits e h → IsDue pods o h → IsDue pods o (e ∷ h)
due_stays pods o e h fits d = record {
  claimed = d.claimed;
  is_claimed = d.is_claimed;
  own_order = d.own_order;
  earlier = λ step below. step_stays d.claimed.keep o.pod step e h fits (d.earlier step below);
}

-- a started order was due, and still is
pub started_due : (pods : Pods) (child : ℕ) (o : Order) (h : List Event) → IsTold h → AreStartsDue pods h → order_of child h ≡ Some o → IsDue pods o h
started_due pods child o [] told due is = cc
started_due pods child o (events.Started other order ∷ older) told due is = elim (cases_Bool (nat_eq child other)) [
  | inl hit ↦
      let now : Some order ≡ Some o = rw hit at is in
      let same : order ≡ o = cc in
      subst (λ (x : Order). IsDue pods x (events.Started other order ∷ older)) same (due_stays pods order (events.Started other order) older told.0 due.0)
  | inr miss ↦ due_stays pods o (events.Started other order) older told.0 (started_due pods child o older told.1 due.2 (rw miss at is))
]
started_due pods child o (e ∷ older) told due is = due_stays pods o e older told.0 (started_due pods child o older told.1 due is)

-- only a started child has an exit
pub exit_started : (child exit : ℕ) (h : List Event) → IsTold h → exit_of child h ≡ Some exit → Has (order_of child h) (λ _. Unit {0})
exit_started child exit [] told is = cc
exit_started child exit (events.Exited other now ∷ older) told is = elim (cases_Bool (nat_eq child other)) [
  | inl hit ↦ record { it = told.0.order; is = subst (λ (c : ℕ). order_of c older ≡ Some told.0.order) (sym (eqb-true child other hit)) told.0.started; has = tt }
  | inr miss ↦ exit_started child exit older told.1 (rw miss at is)
]
exit_started child exit (e ∷ older) told is =
    let before = exit_started child exit older told.1 is in
    record { it = before.it; is = order_stays child before.it e older told.0 before.is; has = tt }

-- where starts are of armed entries, a child's order is its entry's
pub armed_with : (child : ℕ) (o : Order) (h : List Event) → IsTold h → AreStartsArmed h → order_of child h ≡ Some o → Has (arming_of child h) (λ arming. o ≡ arming.order)
armed_with child o [] told armed is = cc
armed_with child o (events.Started other order ∷ older) told armed is = elim (cases_Bool (nat_eq child other)) [
  | inl hit ↦
      let now : Some order ≡ Some o = rw hit at is in
      let same : order ≡ o = cc in
      record { it = armed.0.arming; is = subst (λ (c : ℕ). arming_of c older ≡ Some armed.0.arming) (sym (eqb-true child other hit)) armed.0.armed; has = sym same ∙ armed.0.own_order }
  | inr miss ↦ armed_with child o older told.1 armed.1 (rw miss at is)
]
armed_with child o (e ∷ older) told armed is =
    let before = armed_with child o older told.1 armed is in
    record { it = before.it; is = arming_stays child before.it e older told.0 before.is; has = before.has }

-- A step that is armed by one child alone, which hasn't started, wasn't started.
pub not_started : (child : ℕ) (pod : List ℕ) (step : ℕ) (h : List Event) → IsTold h → AreStartsArmed h → ((c : ℕ) (a : Arming) → arming_of c h ≡ Some a → a.order.pod ≡ pod → a.order.step ≡ step → c ≡ child) → order_of child h ≡ None → NotStarted pod step h
not_started child pod step [] told armed alone none = tt
not_started child pod step (events.Started other order ∷ older) told armed alone none = elim (cases_Bool (nat_eq child other)) [
  | inl hit ↦ (let now : Some order ≡ None = rw hit at none in cc)
  | inr miss ↦ (
    λ same_pod same_step.
        let start = armed.0 in
        let is_child : other ≡ child = alone other start.arming start.armed (sym (ap (λ (x : Order). x.pod) start.own_order) ∙ same_pod) (sym (ap (λ (x : Order). x.step) start.own_order) ∙ same_step) in
        let hit : nat_eq child other ≡ true = eq-eqb child other (sym is_child) in
        cc,
    not_started child pod step older told.1 armed.1 alone (rw miss at none),
  )
]
not_started child pod step (e ∷ older) told armed alone none =
    not_started child pod step older told.1 armed (λ c a is. alone c a (arming_stays c a e older told.0 is)) none

-- a child's entry is the one that it was armed with
same_arming : (child : ℕ) (a b : Arming) (h : List Event) → arming_of child h ≡ Some a → arming_of child h ≡ Some b → a ≡ b
same_arming child a b h first second = cc

same_claimed : (pods : Pods) (p q : List ℕ) (a b : Claimed) → p ≡ q → pods p ≡ Some a → pods q ≡ Some b → a ≡ b
same_claimed pods p q a b same first second = let at : pods p ≡ pods q = ap pods same in cc

module _ (layout : Layout) (laws : IsLayout layout) (killed : ℕ → Bool) (pods : Pods) where
  -- the step that another one waits for passed
  step_before : (h : List Event) → IsKept layout killed pods h → (a : Arming) (claimed : Claimed) → pods a.order.pod ≡ Some claimed → a.wait ≡ layout.wait_of a.order.pod a.order.step → a.order.step < 2 ^ 32 → (m : ℕ) → a.order.step ≡ suc m → MayStart a h → StepPassed claimed.keep a.order.pod m h
  step_before h kept a claimed is_claimed waits small m is (inl put) =
      let wait : a.wait ≡ layout.post_of a.order.pod m = waits ∙ (ap (layout.wait_of a.order.pod) is ∙ laws.next a.order.pod m) in
      let never : was_put a.wait h ≡ false = subst (λ (p : List ℕ). was_put p h ≡ false) (sym wait) (kept.armed.no_posts a.order.pod m) in
      cc
  step_before h kept a claimed is_claimed waits small m is (inr passed) =
      let wait : a.wait ≡ layout.post_of a.order.pod m = waits ∙ (ap (layout.wait_of a.order.pod) is ∙ laws.next a.order.pod m) in
      let step = kept.armed.each passed.child passed.arming passed.armed in
      let post : layout.post_of a.order.pod passed.arming.order.step ≡ layout.post_of a.order.pod m = ap (λ (p : List ℕ). layout.post_of p passed.arming.order.step) (sym passed.same_pod) ∙ (sym step.posts ∙ (passed.post ∙ wait)) in
      let number : passed.arming.order.step ≡ m = laws.apart a.order.pod passed.arming.order.step m step.small (omega arith) post in
      let start = exit_started passed.child passed.exit h kept.told passed.exited in
      let with_arming = armed_with passed.child start.it h kept.told kept.armed.starts start.is in
      let arming : with_arming.it ≡ passed.arming = same_arming passed.child with_arming.it passed.arming h with_arming.is passed.armed in
      let order : start.it ≡ passed.arming.order = with_arming.has ∙ ap (λ (x : Arming). x.order) arming in
      let plan : step.claimed ≡ claimed = same_claimed pods passed.arming.order.pod a.order.pod step.claimed claimed passed.same_pod step.is_claimed is_claimed in
      let keeps : passed.arming.keep_going ≡ continues claimed.keep m = step.keeps ∙ (ap (λ (c : Claimed). continues c.keep passed.arming.order.step) plan ∙ ap (continues claimed.keep) number) in
      record {
        child = passed.child;
        order = start.it;
        started = start.is;
        same_pod = ap (λ (x : Order). x.pod) order ∙ passed.same_pod;
        same_step = ap (λ (x : Order). x.step) order ∙ number;
        exit = passed.exit;
        exited = passed.exited;
        passed = subst (λ (k : Bool). passes k passed.exit ≡ true) keeps passed.passed;
      }

  -- an armed entry that may start is due
  pub armed_due : (h : List Event) → IsKept layout killed pods h → (child : ℕ) (a : Arming) → arming_of child h ≡ Some a → MayStart a h → IsDue pods a.order h
  armed_due h kept child a armed may =
      let at = kept.armed.each child a armed in
      record {
        claimed = at.claimed;
        is_claimed = at.is_claimed;
        own_order = at.own_order;
        earlier = λ step below. before at.claimed at.is_claimed at.waits at.small step a.order.step refl below;
      }
    where
      before : (claimed : Claimed) → pods a.order.pod ≡ Some claimed → a.wait ≡ layout.wait_of a.order.pod a.order.step → a.order.step < 2 ^ 32 → (step n : ℕ) → a.order.step ≡ n → step < n → StepPassed claimed.keep a.order.pod step h
      before claimed is_claimed waits small step zero is below = absurd (omega arith)
      before claimed is_claimed waits small step (suc m) is below =
          let last = step_before h kept a claimed is_claimed waits small m is may in
          let due = started_due pods last.child last.order h kept.told kept.in_order.due last.started in
          let plan : due.claimed ≡ claimed = same_claimed pods last.order.pod a.order.pod due.claimed claimed last.same_pod due.is_claimed is_claimed in
          elim (cases_lt step m) [
            | inl less ↦
                let at : step < last.order.step = subst (λ (n : ℕ). step < n) (sym last.same_step) less in
                let passed : StepPassed due.claimed.keep last.order.pod step h = due.earlier step at in
                let here : StepPassed due.claimed.keep a.order.pod step h = subst (λ (p : List ℕ). StepPassed due.claimed.keep p step h) last.same_pod passed in
                subst (λ (c : Claimed). StepPassed c.keep a.order.pod step h) plan here
            | inr least ↦
                let same : m ≡ step = omega arith in
                subst (λ (n : ℕ). StepPassed claimed.keep a.order.pod n h) same last
          ]

  -- one event after another

  settled_stays : (child : ℕ) (e : Event) (h : List Event) → IsSettled killed child h → IsSettled killed child (e ∷ h)
  settled_stays child (events.Exited other exit) h (inl has) = elim (cases_Bool (nat_eq child other)) [
    | inl hit ↦ inl record { it = exit; is = rw hit refl; has = tt }
    | inr miss ↦ inl record { it = has.it; is = rw miss has.is; has = tt }
  ]
  settled_stays child (events.Exited other exit) h (inr done) = inr done
  settled_stays child _ h settled = settled

  abbrev is_quiet : Event → Bool
  is_quiet (events.Started child order) = false
  is_quiet (events.Armed child arming) = false
  is_quiet (events.Put path bytes true) = false
  is_quiet _ = true

  pub kept_start : (h : List Event) → IsKept layout killed pods h → (child : ℕ) (a : Arming) → arming_of child h ≡ Some a → StillWaits child h → MayStart a h → ((claimed : Claimed) → pods a.order.pod ≡ Some claimed → claimed.is_over ≡ false) → IsKept layout killed pods (events.Started child a.order ∷ h)
  kept_start h kept child a armed waits may live =
      let start : StartsArmed child a.order h = record { arming = a; armed = armed; waited = waits; own_order = refl; may = may } in
      record {
        told = (inr start, kept.told);
        in_order = record {
          due = (armed_due h kept child a armed may, not_started child a.order.pod a.order.step h kept.told kept.armed.starts (λ c b is pod step. kept.armed.once c child b a is armed pod step) waits.not_started, kept.in_order.due);
          settled = λ c o is over. elim (cases_Bool (nat_eq c child)) [
            | inl hit ↦
                let now : Some a.order ≡ Some o = rw hit at is in
                let same : o ≡ a.order = cc in
                let not_over : over.it.is_over ≡ false = live over.it (ap (λ (x : Order). pods x.pod) (sym same) ∙ over.is) in
                let is_over : over.it.is_over ≡ true = over.has in
                cc
            | inr miss ↦ settled_stays c (events.Started child a.order) h (kept.in_order.settled c o (rw miss at is) over)
          ];
        };
        armed = record {
          starts = (start, kept.armed.starts);
          each = kept.armed.each;
          once = kept.armed.once;
          no_posts = kept.armed.no_posts;
        };
      }

  pub kept_quiet : (e : Event) (h : List Event) → is_quiet e ≡ true → Fits e h → IsKept layout killed pods h → IsKept layout killed pods (e ∷ h)
  kept_quiet (events.Started child order) h quiet fits kept = cc
  kept_quiet (events.Armed child arming) h quiet fits kept = cc
  kept_quiet (events.Put path bytes true) h quiet fits kept = cc
  kept_quiet (events.Cleared folder true) h quiet fits kept = record {
    told = (fits, kept.told);
    in_order = record {
      due = kept.in_order.due;
      settled = λ c o is over. settled_stays c (events.Cleared folder true) h (kept.in_order.settled c o is over);
    };
    armed = record {
      starts = kept.armed.starts;
      each = kept.armed.each;
      once = kept.armed.once;
      no_posts = λ pod step. rw (kept.armed.no_posts pod step, and-false) refl;
    };
  }
  kept_quiet e h quiet fits kept = record {
    told = (fits, kept.told);
    in_order = record {
      due = kept.in_order.due;
      settled = λ c o is over. settled_stays c e h (kept.in_order.settled c o is over);
    };
    armed = record {
      starts = kept.armed.starts;
      each = kept.armed.each;
      once = kept.armed.once;
      no_posts = kept.armed.no_posts;
    };
  }

  -- a put of a path that is no post file
  pub kept_put : (path bytes : List ℕ) (h : List Event) → ((pod : List ℕ) (step : ℕ) → layout.post_of pod step ≢ path) → IsKept layout killed pods h → IsKept layout killed pods (events.Put path bytes true ∷ h)
  kept_put path bytes h other kept = record {
    told = (tt, kept.told);
    in_order = record {
      due = kept.in_order.due;
      settled = λ c o is over. settled_stays c (events.Put path bytes true) h (kept.in_order.settled c o is over);
    };
    armed = record {
      starts = kept.armed.starts;
      each = kept.armed.each;
      once = kept.armed.once;
      no_posts = λ pod step. elim (cases_Bool (bytes_eq (layout.post_of pod step) path)) [
        | inl hit ↦ absurd (other pod step ((bytes_eq-Decides (layout.post_of pod step) path).0 hit))
        | inr miss ↦ rw miss (kept.armed.no_posts pod step)
      ];
    };
  }

  -- a step of a claimed pod that isn't armed yet is armed under a new number
  pub kept_arm : (h : List Event) → IsKept layout killed pods h → (child : ℕ) (a : Arming) → IsNew child h → ArmsStep layout pods a → ((c : ℕ) (b : Arming) → arming_of c h ≡ Some b → b.order.pod ≡ a.order.pod → b.order.step ≡ a.order.step → ⊥) → IsKept layout killed pods (events.Armed child a ∷ h)
  kept_arm h kept child a new at unarmed = record {
    told = (new, kept.told);
    in_order = record {
      due = kept.in_order.due;
      settled = λ c o is over. settled_stays c (events.Armed child a) h (kept.in_order.settled c o is over);
    };
    armed = record {
      starts = kept.armed.starts;
      each = λ c b is. elim (cases_Bool (nat_eq c child)) [
        | inl hit ↦ (let now : Some a ≡ Some b = rw hit at is in subst (ArmsStep layout pods) (same_Some a b now) at)
        | inr miss ↦ kept.armed.each c b (rw miss at is)
      ];
      once = λ c d b e is_c is_d pod step. elim (cases_Bool (nat_eq c child)) [
        | inl hit ↦ elim (cases_Bool (nat_eq d child)) [
          | inl hit_d ↦ eqb-true c child hit ∙ sym (eqb-true d child hit_d)
          | inr miss_d ↦
              let now : Some a ≡ Some b = rw hit at is_c in
              let same : a ≡ b = same_Some a b now in
              absurd (unarmed d e (rw miss_d at is_d) (sym pod ∙ ap (λ (x : Arming). x.order.pod) (sym same)) (sym step ∙ ap (λ (x : Arming). x.order.step) (sym same)))
        ]
        | inr miss ↦ elim (cases_Bool (nat_eq d child)) [
          | inl hit_d ↦
              let now : Some a ≡ Some e = rw hit_d at is_d in
              let same : a ≡ e = same_Some a e now in
              absurd (unarmed c b (rw miss at is_c) (pod ∙ ap (λ (x : Arming). x.order.pod) (sym same)) (step ∙ ap (λ (x : Arming). x.order.step) (sym same)))
          | inr miss_d ↦ kept.armed.once c d b e (rw miss at is_c) (rw miss_d at is_d) pod step
        ]
      ];
      no_posts = kept.armed.no_posts;
    };
  }

  -- a watch of an armed entry of a pod that isn't over
  kept_exit : (h new : List Event) → IsKept layout killed pods h → (child exit : ℕ) → TellsExit child exit h new → IsKept layout killed pods new
  kept_exit h new kept child exit (inl first) = subst (IsKept layout killed pods) (sym first.1) (kept_quiet (events.Exited child exit) h refl first.0 kept)
  kept_exit h new kept child exit (inr again) = subst (IsKept layout killed pods) (sym again.1) kept

  pub kept_watch : (h new : List Event) → IsKept layout killed pods h → (child : ℕ) (a : Arming) → arming_of child h ≡ Some a → ((claimed : Claimed) → pods a.order.pod ≡ Some claimed → claimed.is_over ≡ false) → (watch : Watch) → TellsTurn child a h new watch → IsKept layout killed pods new
  kept_watch h new kept child a armed live watches.Waits turn = subst (IsKept layout killed pods) (sym turn.1) kept
  kept_watch h new kept child a armed live watches.Started turn = subst (IsKept layout killed pods) (sym turn.2) (kept_start h kept child a armed turn.0 turn.1 live)
  kept_watch h new kept child a armed live watches.Runs turn = subst (IsKept layout killed pods) (sym turn.1) kept
  kept_watch h new kept child a armed live (watches.Passed exit) turn = kept_exit h new kept child exit turn.1
  kept_watch h new kept child a armed live (watches.Broke (Some exit)) turn = kept_exit h new kept child exit turn.1
  kept_watch h new kept child a armed live (watches.Broke None) (inl first) = subst (IsKept layout killed pods) (sym first.1) (kept_quiet (events.Refused child) h refl record { it = a; is = armed; has = first.0 } kept)
  kept_watch h new kept child a armed live (watches.Broke None) (inr again) = subst (IsKept layout killed pods) (sym again.1) kept
