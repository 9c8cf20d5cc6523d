-- What a change does to well-formed facts.
use Rattle.std.proofs.Common.{◌≡◌, ℕ, zero, suc, ◌+◌, ◌-◌, ◌<◌, ◌≤◌, Bool, true, false, ◌&&◌, List, [], ◌∷◌, ◌++◌, length, map, get_or, set, Option, Some, None, refl, sym, ap, ◌∙◌, subst, inl, inr, arith, nat_eq, zero-add, length-append, rules}
use Rattle.std.specs.Prelude.{◌⊎◌, AllPairs, nat_lt, slice_get}
use Rattle.std.specs.List.{list_all, range_with_len}
use Rattle.std.proofs.lemmas.Bool.{and_parts, cases_Bool}
use Rattle.std.proofs.lemmas.Bool.Decides.{eqb_tells}
use Rattle.std.proofs.lemmas.List.{get_or-map, get_or_append_left, get_or-append_right, length-map}
use Rattle.std.proofs.lemmas.List.Folds.{list_all-append}
use Rattle.std.proofs.lemmas.List.FromFn.{get_or-map-range_with_len, length-map-range_with_len}
use Rattle.std.proofs.lemmas.Option.{get_or_from_slice_get}
use Rattle.tk_types.specs.declared.run.Child.{Child}
use Rattle.tk_types.specs.declared.run.Facts.{Facts}
use Rattle.tk_types.specs.declared.run.Outcome.{Outcome}
use Rattle.tk_verdict.specs.Facts.{children_at, task_total}
use Rattle.tk_verdict.specs.WellFormed.{IsWellFormed, is_same_child}
use Rattle.tk_labels.specs.declared.change.Change.{Change}
use Rattle.tk_labels.specs.declared.change.Change.TheVariants.{Stop, Children, Ended}
use Rattle.tk_labels.specs.Change.{changed, child_at, children_with, once_ended, runs_at}
use Rattle.tk_labels.specs.Kept.{MayChange, MayHave, of_run}

-- numbers that are compared

pub nat_is : (a b : ℕ) → nat_eq a b ≡ true → a ≡ b
nat_is a b is =
    elim (eqb_tells a b) [
      | inl pos ↦ pos.1
      | inr neg ↦ let bad = neg.0 in cc
    ]

pub nat_same : (a b : ℕ) → a ≡ b → nat_eq a b ≡ true
nat_same a b same =
    elim (eqb_tells a b) [
      | inl pos ↦ pos.0
      | inr neg ↦ absurd (neg.1 same)
    ]

pub nat_differ : (a b : ℕ) → (a ≡ b → ⊥) → nat_eq a b ≡ false
nat_differ a b differ =
    elim (eqb_tells a b) [
      | inl pos ↦ absurd (differ pos.1)
      | inr neg ↦ neg.0
    ]

and_false : (a : Bool) → (a && false) ≡ false
and_false true = refl
and_false false = refl

-- the child that runs

pub that_runs : (task index : ℕ) → runs_at task index (record { task = task; index = index; outcome = None }) ≡ true
that_runs task index = λ i. (nat_same task task refl i && nat_same index index refl i) && true

-- a child that ended keeps its task and its index

pub ended_task : (t k : ℕ) (o : Outcome) (c : Child) → (once_ended t k o c).task ≡ c.task
ended_task t k o c =
    elim (cases_Bool (nat_eq c.task t && nat_eq c.index k)) [
      | inl pos ↦ rw pos refl
      | inr neg ↦ rw neg refl
    ]

ended_index : (t k : ℕ) (o : Outcome) (c : Child) → (once_ended t k o c).index ≡ c.index
ended_index t k o c =
    elim (cases_Bool (nat_eq c.task t && nat_eq c.index k)) [
      | inl pos ↦ rw pos refl
      | inr neg ↦ rw neg refl
    ]

ended_exist : (n t k : ℕ) (o : Outcome) (cs : List Child) → list_all (λ (c : Child). nat_lt c.task n) (map (once_ended t k o) cs) ≡ list_all (λ (c : Child). nat_lt c.task n) cs
ended_exist n t k o [] = refl
ended_exist n t k o (c ∷ cs) = λ i. nat_lt (ended_task t k o c i) n && ended_exist n t k o cs i

same_key : (a b : Child) → a.task ≡ b.task → a.index ≡ b.index → is_same_child a b ≡ true
same_key a b task index = λ i. nat_same a.task b.task task i && nat_same a.index b.index index i

-- another child stays as it is
pub other_stays : (t k : ℕ) (o : Outcome) (c : Child) → (c.task ≡ t → c.index ≡ k → ⊥) → once_ended t k o c ≡ c
other_stays t k o c differ =
    elim (cases_Bool (nat_eq c.task t && nat_eq c.index k)) [
      | inl pos ↦
          let both = and_parts (nat_eq c.task t) (nat_eq c.index k) pos in
          absurd (differ (nat_is c.task t both.0) (nat_is c.index k both.1))
      | inr neg ↦ rw neg refl
    ]

others_stay : (t k : ℕ) (o : Outcome) (cs : List Child) → ((i : ℕ) (x : Child) → i < length cs → (get_or cs i x).task ≡ t → (get_or cs i x).index ≡ k → ⊥) → map (once_ended t k o) cs ≡ cs
others_stay t k o [] differ = refl
others_stay t k o (c ∷ cs) differ = λ i. other_stays t k o c (differ 0 c (omega arith)) i ∷ others_stay t k o cs (λ j x lt. differ (suc j) x (omega arith)) i

abbrev Differ : List Child → Type 0
Differ cs = AllPairs (λ a b. is_same_child a b ≡ false) cs

that_ends : (t k : ℕ) (o : Outcome) → once_ended t k o (record { task = t; index = k; outcome = None }) ≡ record { task = t; index = k; outcome = Some o }
that_ends t k o =
    let pos : (nat_eq t t && nat_eq k k) ≡ true = λ i. nat_same t t refl i && nat_same k k refl i in
    rw pos refl

-- the end of one child is the change of one place
pub ends_at : (t k : ℕ) (o : Outcome) (cs : List Child) (place : ℕ) → Differ cs → slice_get cs place ≡ Some (record { task = t; index = k; outcome = None })
    → map (once_ended t k o) cs ≡ set cs place (record { task = t; index = k; outcome = Some o })
ends_at t k o [] place differ found = cc
ends_at t k o (c ∷ cs) zero differ found =
    let is : c ≡ record { task = t; index = k; outcome = None } = cc in
    let head : once_ended t k o c ≡ record { task = t; index = k; outcome = Some o } = ap (once_ended t k o) is ∙ that_ends t k o in
    λ i. head i ∷ others_stay t k o cs (λ j x lt task index.
    let different : is_same_child c (get_or cs j x) ≡ false = differ 0 (suc j) x (omega arith) (omega arith) in
    let same = same_key c (get_or cs j x) (ap (λ (d : Child). d.task) is ∙ sym task) (ap (λ (d : Child). d.index) is ∙ sym index) in
    cc) i
ends_at t k o (c ∷ cs) (suc place) differ found =
    let within = found_within cs place found in
    let that = get_or_from_slice_get cs place _ c found in
    let head : once_ended t k o c ≡ c = other_stays t k o c (λ task index.
    let different : is_same_child c (get_or cs place c) ≡ false = differ 0 (suc place) c (omega arith) (omega (arith, within)) in
    let same = same_key c (get_or cs place c) (task ∙ sym (ap (λ (d : Child). d.task) that)) (index ∙ sym (ap (λ (d : Child). d.index) that)) in
    cc) in
    λ i. head i ∷ ends_at t k o cs place (λ a b x lt w. differ (suc a) (suc b) x (omega arith) (omega arith)) found i
  where
    found_within : (xs : List Child) (n : ℕ) {x : Child} → slice_get xs n ≡ Some x → n < length xs
    found_within [] n is = cc
    found_within (y ∷ ys) zero is = omega arith
    found_within (y ∷ ys) (suc n) is = omega (arith, found_within ys n is)

-- and taking it back is neg change
pub taken_back : (cs : List Child) (place : ℕ) (c d : Child) → slice_get cs place ≡ Some c → set (set cs place d) place c ≡ cs
taken_back [] place c d found = refl
taken_back (e ∷ cs) zero c d found = let is : e ≡ c = cc in ap (λ (x : Child). x ∷ cs) (sym is)
taken_back (e ∷ cs) (suc place) c d found = ap (λ (xs : List Child). e ∷ xs) (taken_back cs place c d found)

-- new children

head_differs : (t : ℕ) (c : Child) (cs : List Child) → children_at (c ∷ cs) t ≡ [] → nat_eq c.task t ≡ false
head_differs t c cs none =
    elim (cases_Bool (nat_eq c.task t)) [
      | inl pos ↦ let kept : (c ∷ children_at cs t) ≡ [] = rw pos at none in cc
      | inr neg ↦ neg
    ]

none_behind : (t : ℕ) (c : Child) (cs : List Child) → children_at (c ∷ cs) t ≡ [] → children_at cs t ≡ []
none_behind t c cs none = let rest : children_at cs t ≡ [] = rw (head_differs t c cs none) at none in rest

not_among : (t : ℕ) (cs : List Child) → children_at cs t ≡ [] → (i : ℕ) (x : Child) → i < length cs → nat_eq (get_or cs i x).task t ≡ false
not_among t [] none i x lt = absurd (omega arith)
not_among t (c ∷ cs) none zero x lt = head_differs t c cs none
not_among t (c ∷ cs) none (suc i) x lt = not_among t cs (none_behind t c cs none) i x (omega arith)

new_at : (t : ℕ) (os : List (Option Outcome)) (i : ℕ) (x : Child) → i < length os → get_or (children_with t os) i x ≡ child_at t os i
new_at t os i x lt = get_or-map-range_with_len (child_at t os) 0 (length os) i i x lt (zero-add i)

new_exist : (n t a m : ℕ) (os : List (Option Outcome)) → t < n → list_all (λ (c : Child). nat_lt c.task n) (map (child_at t os) (range_with_len a m)) ≡ true
new_exist n t a zero os lt = refl
new_exist n t a (suc m) os lt = let pos : nat_lt t n ≡ true = search rules in λ i. pos i && new_exist n t (a + 1) m os lt i

more_differ : (t : ℕ) (os : List (Option Outcome)) (cs : List Child) → Differ cs → children_at cs t ≡ [] → Differ (cs ++ children_with t os)
more_differ t os cs differ none i j x lt within =
    elim (Nat_le (length cs) j) [
      | inl late ↦ elim (Nat_le (length cs) i) [
        | inl both ↦ both_new both late
        | inr early ↦ one_new early late
      ]
      | inr early ↦
          let a : get_or (cs ++ children_with t os) i x ≡ get_or cs i x = get_or_append_left cs (children_with t os) x i (omega (arith, early, lt)) in
          let b : get_or (cs ++ children_with t os) j x ≡ get_or cs j x = get_or_append_left cs (children_with t os) x j early in
          (λ k. is_same_child (a k) (b k)) ∙ differ i j x lt early
    ]
  where
    Nat_le : (a b : ℕ) → (a ≤ b) ⊎ (b < a)
    Nat_le zero b = inl (omega arith)
    Nat_le (suc a) zero = inr (omega arith)
    Nat_le (suc a) (suc b) = elim (Nat_le a b) [ inl le ↦ inl (omega (arith, le)) | inr less ↦ inr (omega (arith, less)) ]

    long : length (children_with t os) ≡ length os
    long = length-map-range_with_len (child_at t os) 0 (length os)

    late_within : length cs ≤ j → j - length cs < length os
    late_within late = let total : length (cs ++ children_with t os) ≡ length cs + length (children_with t os) = length-append cs (children_with t os) in omega (arith, total, long, within, late)

    late_at : (n : ℕ) → length cs ≤ n → n ≤ j → length cs ≤ j → get_or (cs ++ children_with t os) n x ≡ child_at t os (n - length cs)
    late_at n past le late =
        get_or-append_right cs (children_with t os) (length cs) n x refl past ∙ new_at t os (n - length cs) x (omega (arith, late_within late, past, le))

    both_new : length cs ≤ i → length cs ≤ j → is_same_child (get_or (cs ++ children_with t os) i x) (get_or (cs ++ children_with t os) j x) ≡ false
    both_new early late =
        let a = late_at i early (omega (arith, lt)) late in
        let b = late_at j late (omega arith) late in
        let index : nat_eq (i - length cs) (j - length cs) ≡ false = nat_differ (i - length cs) (j - length cs) (λ same. absurd (omega (arith, same, lt, early, late))) in
        (λ k. is_same_child (a k) (b k)) ∙ ((λ k. nat_eq t t && index k) ∙ and_false (nat_eq t t))

    one_new : i < length cs → length cs ≤ j → is_same_child (get_or (cs ++ children_with t os) i x) (get_or (cs ++ children_with t os) j x) ≡ false
    one_new early late =
        let a : get_or (cs ++ children_with t os) i x ≡ get_or cs i x = get_or_append_left cs (children_with t os) x i early in
        let b = late_at j late (omega arith) late in
        (λ k. is_same_child (a k) (b k)) ∙ (λ k. not_among t cs none i x early k && nat_eq (get_or cs i x).index (j - length cs))

module _ (facts : Facts) (formed : IsWellFormed facts) where
  pub stop_formed : (run : Facts) → run.spec ≡ facts.spec → IsWellFormed (of_run run facts.children)
  stop_formed run spec =
      subst (λ s. IsWellFormed (record { spec = s; stops = run.stops; children = facts.children })) (sym spec)
      (record {
        few_tasks = formed.few_tasks;
        children_differ = formed.children_differ;
        children_exist = formed.children_exist;
        names_differ = formed.names_differ;
        one_body_each = formed.one_body_each;
        parents_exist = formed.parents_exist;
        acyclic = formed.acyclic;
        readable = formed.readable;
      })

  pub given_formed : (t : ℕ) (os : List (Option Outcome)) → MayHave facts t (length os) → IsWellFormed (of_run facts (facts.children ++ children_with t os))
  given_formed t os may =
      record {
        few_tasks = formed.few_tasks;
        children_differ = more_differ t os facts.children formed.children_differ may.none;
        children_exist =
            let both = list_all-append (λ (c : Child). nat_lt c.task (task_total facts)) facts.children (children_with t os) in
            let new = new_exist (task_total facts) t 0 (length os) os may.exists in
            let old : list_all (λ (c : Child). nat_lt c.task (task_total facts)) facts.children ≡ true = formed.children_exist in
            both ∙ (λ i. old i && new i);
        names_differ = formed.names_differ;
        one_body_each = formed.one_body_each;
        parents_exist = formed.parents_exist;
        acyclic = formed.acyclic;
        readable = formed.readable;
      }

  pub end_formed : (t k : ℕ) (o : Outcome) → IsWellFormed (of_run facts (map (once_ended t k o) facts.children))
  end_formed t k o =
      record {
        few_tasks = formed.few_tasks;
        children_differ = λ i j x lt within.
            let f = once_ended t k o in
            let cs = facts.children in
            let inside : j < length cs = subst (λ n. j < n) (length-map cs f) within in
            let a : get_or (map f cs) i x ≡ f (get_or cs i x) = get_or-map f cs i x x (omega (arith, inside, lt)) in
            let b : get_or (map f cs) j x ≡ f (get_or cs j x) = get_or-map f cs j x x inside in
            (λ l. is_same_child (a l) (b l))
            ∙ ((λ l. (nat_eq (ended_task t k o (get_or cs i x) l) (ended_task t k o (get_or cs j x) l)) && (nat_eq (ended_index t k o (get_or cs i x) l) (ended_index t k o (get_or cs j x) l)))
            ∙ formed.children_differ i j x lt inside);
        children_exist = ended_exist (task_total facts) t k o facts.children ∙ formed.children_exist;
        names_differ = formed.names_differ;
        one_body_each = formed.one_body_each;
        parents_exist = formed.parents_exist;
        acyclic = formed.acyclic;
        readable = formed.readable;
      }

-- facts stay well formed
pub changed_formed : (change : Change) (facts : Facts) → IsWellFormed facts → MayChange change facts → IsWellFormed (changed change facts)
changed_formed (Stop stop) facts formed may = stop_formed facts formed (changed (Stop stop) facts) refl
changed_formed (Children t os) facts formed may = given_formed facts formed t os may
changed_formed (Ended t k o) facts formed may = end_formed facts formed t k o
