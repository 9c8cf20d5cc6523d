-- The children that outcomes tell differ, and each is of a task of the run.
use Rattle.std.proofs.Common.{◌≡◌, ℕ, suc, ◌+◌, ◌<◌, Bool, true, false, cond, ◌&&◌, ◌⊎◌, inl, inr, List, [], ◌∷◌, ◌++◌, map, length, Option, Some, None, option_map, bytes_eq, refl, sym, ap, ◌∙◌, subst, append_assoc, arith, eqb}
use Rattle.std.specs.Prelude.{All, AllPairs, IsTrue, filter, filter_map, nat_lt, slice_get}
use Rattle.std.specs.List.{cons_option, enumerate_from, list_all, list_any}
use Rattle.std.specs.Option.{option_or}
use Rattle.std.proofs.lemmas.Bool.{and_parts, cases_Bool, eq-eqb, eqb-true, false≢true, lt-ltb, or_parts}
use Rattle.std.proofs.lemmas.List.{append-nil}
use Rattle.std.proofs.lemmas.List.Elements.{All-cons, All-nil, filter_map-append}
use Rattle.std.proofs.lemmas.List.Quantifiers.{all_pairs_push}
use Rattle.std.proofs.lemmas.Option.{none-some, same_Some, slice_get_within}
use Rattle.std.proofs.lemmas.Slice.Eq.{bytes_eq-Decides}
use Rattle.tk_types.specs.declared.task.PipelineTask.{PipelineTask}
use Rattle.tk_types.specs.declared.run.Child.{Child}
use Rattle.tk_types.specs.declared.run.RunSpec.{RunSpec}
use Rattle.tk_types.specs.declared.object.OutcomesChild.{OutcomesChild}
use Rattle.tk_types.specs.declared.fault.Fault.{Fault}
use Rattle.tk_types.specs.Fault.{duplicate}
use Rattle.tk_types.specs.Place.{Place, ◌#◌}
use Rattle.tk_types.specs.First.{first_from, first_in, refused_if}
use Rattle.tk_verdict.specs.WellFormed.{is_same_child as is_same_fact}
use Rattle.tk_admit.specs.Command.{child_finding, child_of, is_same_child, place_in, task_place}
use Rattle.tk_admit.specs.Taken.{behind, with_earlier}
use Rattle.tk_admit.proofs.Nothing.{first_none, rest_none}

-- an element at a place, that passes a test
abbrev pub Passes : {X : Type 0} → (X → Bool) → List X → ℕ → Type 0
Passes {X} test xs place = (x : X) × (slice_get xs place ≡ Some x) × (test x ≡ true)

abbrev Leads : {X : Type 0} → (X → Bool) → ℕ → List X → ℕ → Type 0
Leads test n xs place = (k : ℕ) × (place ≡ n + k) × Passes test xs k

abbrev kept : {X : Type 0} → (X → Bool) → ℕ → List X → List (ℕ × X)
kept {X} test n xs = filter (λ (e : ℕ × X). test e.1) (enumerate_from n xs)

abbrev leader : {X : Type 0} → List (ℕ × X) → Option ℕ
leader {X} es = slice_get (map (λ (e : ℕ × X). e.0) es) 0

-- the first place of those that pass
later_leads : {X : Type 0} (test : X → Bool) (n : ℕ) (x : X) (xs : List X) (place : ℕ) → Leads test (n + 1) xs place → Leads test n (x ∷ xs) place
later_leads test n x xs place (k, is, found) = (suc k, omega (arith, is), found)

leads_either : {X : Type 0} (test : X → Bool) (n : ℕ) (x : X) (xs : List X) (place : ℕ) (pass : Bool) → test x ≡ pass → (leader (kept test (n + 1) xs) ≡ Some place → Leads test (n + 1) xs place)
    → leader (cond pass ((n, x) ∷ kept test (n + 1) xs) (kept test (n + 1) xs)) ≡ Some place → Leads test n (x ∷ xs) place
leads_either test n x xs place true pass later e = (0, (let same = same_Some n place e in omega (arith, same)), (x, refl, pass))
leads_either test n x xs place false pass later e = later_leads test n x xs place (later e)

leads : {X : Type 0} (test : X → Bool) (n : ℕ) (xs : List X) (place : ℕ) → leader (kept test n xs) ≡ Some place → Leads test n xs place
leads test n [] place e = absurd (none-some place e)
leads test n (x ∷ xs) place e = leads_either test n x xs place (test x) refl (leads test (n + 1) xs place) e

first_passes : {X : Type 0} (test : X → Bool) (xs : List X) (place : ℕ) → Leads test 0 xs place → Passes test xs place
first_passes test xs place (k, is, found) = subst (Passes test xs) (let same : k ≡ place = omega (arith, is) in same) found

-- the place of a task of a name
pub place_in_named : (tasks : List PipelineTask) (name : List ℕ) (place : ℕ) → place_in tasks name ≡ Some place → Passes (λ (t : PipelineTask). bytes_eq name t.name) tasks place
place_in_named tasks name place e =
    let test : PipelineTask → Bool = λ t. bytes_eq name t.name in
    first_passes test tasks place (leads test 0 tasks place e)

pub place_in_below : (tasks : List PipelineTask) (name : List ℕ) (place : ℕ) → place_in tasks name ≡ Some place → place < length tasks
place_in_below tasks name place e = let (task, at, pass) = place_in_named tasks name place e in slice_get_within tasks place task at

-- a task of `tasks`, or of `finally`
abbrev Stands : RunSpec → List ℕ → ℕ → Type 0
Stands spec name place = (place_in spec.tasks name ≡ Some place) ⊎ ((k : ℕ) × (place ≡ length spec.tasks + k) × (place_in spec.finally name ≡ Some k))

stands_by : (spec : RunSpec) (name : List ℕ) (place : ℕ) (first second : Option ℕ) → place_in spec.tasks name ≡ first → place_in spec.finally name ≡ second
    → option_or first (option_map (λ k. length spec.tasks + k) second) ≡ Some place → Stands spec name place
stands_by spec name place (Some k) second is also e = inl (is ∙ e)
stands_by spec name place None (Some k) is also e = inr (k, sym (same_Some (length spec.tasks + k) place e), also)
stands_by spec name place None None is also e = absurd (none-some place e)

stands : (spec : RunSpec) (name : List ℕ) (place : ℕ) → task_place spec name ≡ Some place → Stands spec name place
stands spec name place e = stands_by spec name place (place_in spec.tasks name) (place_in spec.finally name) refl refl e

below_by : (spec : RunSpec) (name : List ℕ) (place : ℕ) → Stands spec name place → place < length spec.tasks + length spec.finally
below_by spec name place (inl e) = let below = place_in_below spec.tasks name place e in omega (arith, below)
below_by spec name place (inr (k, is, e)) = let below = place_in_below spec.finally name k e in omega (arith, is, below)

pub task_place_below : (spec : RunSpec) (name : List ℕ) (place : ℕ) → task_place spec name ≡ Some place → place < length spec.tasks + length spec.finally
task_place_below spec name place e = below_by spec name place (stands spec name place e)

-- one place, one name
same_in : (tasks : List PipelineTask) (a b : List ℕ) (place : ℕ) → place_in tasks a ≡ Some place → place_in tasks b ≡ Some place → a ≡ b
same_in tasks a b place e f =
    let (t, t_at, t_named) = place_in_named tasks a place e in
    let (u, u_at, u_named) = place_in_named tasks b place f in
    (bytes_eq-Decides a t.name).0 t_named ∙ (ap (λ (v : PipelineTask). v.name) (same_Some t u (sym t_at ∙ u_at)) ∙ sym ((bytes_eq-Decides b u.name).0 u_named))

same_by : (spec : RunSpec) (a b : List ℕ) (place : ℕ) → Stands spec a place → Stands spec b place → a ≡ b
same_by spec a b place (inl e) (inl f) = same_in spec.tasks a b place e f
same_by spec a b place (inl e) (inr (k, is, f)) = let below = place_in_below spec.tasks a place e in let nowhere : ⊥ = omega (arith, is, below) in absurd nowhere
same_by spec a b place (inr (k, is, e)) (inl f) = let below = place_in_below spec.tasks b place f in let nowhere : ⊥ = omega (arith, is, below) in absurd nowhere
same_by spec a b place (inr (j, is, e)) (inr (k, also, f)) =
    let one : k ≡ j = omega (arith, is, also) in
    same_in spec.finally a b j e (subst (λ n. place_in spec.finally b ≡ Some n) one f)

pub same_place_same_name : (spec : RunSpec) (a b : List ℕ) (place : ℕ) → task_place spec a ≡ Some place → task_place spec b ≡ Some place → bytes_eq a b ≡ true
same_place_same_name spec a b place e f = (bytes_eq-Decides a b).1 (same_by spec a b place (stands spec a place e) (stands spec b place f))

-- children of tasks that exist
abbrev fact_of : OutcomesChild → ℕ → Child
fact_of child place = record { task = place; index = child.index; outcome = child.outcome }

abbrev exists_in : RunSpec → Child → Bool
exists_in spec c = nat_lt c.task (length spec.tasks + length spec.finally)

one_more_exists : (spec : RunSpec) (child : OutcomesChild) (found : Option ℕ) (rest : List Child) → task_place spec child.task ≡ found → list_all (exists_in spec) rest ≡ true
    → list_all (exists_in spec) (cons_option (option_map (fact_of child) found) rest) ≡ true
one_more_exists spec child None rest is all = all
one_more_exists spec child (Some place) rest is all =
    ap (λ b. b && list_all (exists_in spec) rest) (lt-ltb place (length spec.tasks + length spec.finally) (task_place_below spec child.task place is)) ∙ all

each_exists : (spec : RunSpec) (children : List OutcomesChild) → list_all (exists_in spec) (filter_map (child_of spec) children) ≡ true
each_exists spec [] = refl
each_exists spec (child ∷ children) = one_more_exists spec child (task_place spec child.task) (filter_map (child_of spec) children) refl (each_exists spec children)

pub children_exist : (spec : RunSpec) (children : List OutcomesChild) → IsTrue (list_all (λ (c : Child). nat_lt c.task (length spec.tasks + length spec.finally)) (filter_map (child_of spec) children))
children_exist spec children = each_exists spec children

-- children that differ
abbrev Differ : Child → Child → Type 0
Differ a b = is_same_fact a b ≡ false

module _ (spec : RunSpec) (child : OutcomesChild) (place : ℕ) (is : task_place spec child.task ≡ Some place) where
  same_children : (e : OutcomesChild) (q : ℕ) → task_place spec e.task ≡ Some q → is_same_fact (fact_of e q) (fact_of child place) ≡ true → is_same_child child e ≡ true
  same_children e q at same =
      let (places, indexes) = and_parts (eqb q place) (eqb e.index child.index) same in
      let named = same_place_same_name spec child.task e.task place is (at ∙ ap (λ n. Some n) (eqb-true q place places)) in
      ap (λ b. b && eqb child.index e.index) named ∙ eq-eqb child.index e.index (sym (eqb-true e.index child.index indexes))

  one_differs : (e : OutcomesChild) (q : ℕ) → task_place spec e.task ≡ Some q → is_same_child child e ≡ false → Differ (fact_of e q) (fact_of child place)
  one_differs e q at other = elim (cases_Bool (is_same_fact (fact_of e q) (fact_of child place))) [
    | inl same ↦ absurd (false≢true (sym other ∙ same_children e q at same))
    | inr differ ↦ differ
  ]

  one_more_differs : (e : OutcomesChild) (found : Option ℕ) (rest : List Child) → task_place spec e.task ≡ found → is_same_child child e ≡ false → All (λ c. Differ c (fact_of child place)) rest
      → All (λ c. Differ c (fact_of child place)) (cons_option (option_map (fact_of e) found) rest)
  one_more_differs e None rest at other all = all
  one_more_differs e (Some q) rest at other all = All-cons (λ c. Differ c (fact_of child place)) (fact_of e q) rest (one_differs e q at other) all

  each_differs : (earlier : List OutcomesChild) → list_any (is_same_child child) earlier ≡ false → All (λ c. Differ c (fact_of child place)) (filter_map (child_of spec) earlier)
  each_differs [] new = All-nil (λ c. Differ c (fact_of child place))
  each_differs (e ∷ earlier) new =
      let (other, others) = or_parts (is_same_child child e) (list_any (is_same_child child) earlier) new in
      one_more_differs e (task_place spec e.task) (filter_map (child_of spec) earlier) refl other (each_differs earlier others)

-- those so far differ, and the next one from all of them
next_by : (spec : RunSpec) (child : OutcomesChild) (found : Option ℕ) (earlier : List OutcomesChild) → task_place spec child.task ≡ found → list_any (is_same_child child) earlier ≡ false
    → AllPairs Differ (filter_map (child_of spec) earlier) → AllPairs Differ (filter_map (child_of spec) earlier ++ cons_option (option_map (fact_of child) found) [])
next_by spec child None earlier is new so_far = subst (AllPairs Differ) (sym (append-nil (filter_map (child_of spec) earlier))) so_far
next_by spec child (Some place) earlier is new so_far =
    all_pairs_push Differ (filter_map (child_of spec) earlier) (fact_of child place) so_far (each_differs spec child place is earlier new)

next_differs : (spec : RunSpec) (child : OutcomesChild) (earlier : List OutcomesChild) → list_any (is_same_child child) earlier ≡ false
    → AllPairs Differ (filter_map (child_of spec) earlier) → AllPairs Differ (filter_map (child_of spec) (earlier ++ child ∷ []))
next_differs spec child earlier new so_far =
    subst (AllPairs Differ) (sym (filter_map-append (child_of spec) earlier (child ∷ []))) (next_by spec child (task_place spec child.task) earlier refl new so_far)

not_refused : (test : Bool) (fault : Fault) → refused_if test fault ≡ None → test ≡ false
not_refused true fault e = absurd (none-some fault (sym e))
not_refused false fault e = refl

module _ (spec : RunSpec) (place : Place) where
  is_new : (at : Place) (earlier : List OutcomesChild) (child : OutcomesChild) → child_finding spec at (earlier, child) ≡ None → list_any (is_same_child child) earlier ≡ false
  is_new at earlier child e = not_refused (list_any (is_same_child child) earlier) (duplicate at child.task) (first_none _ _ e)

  differ_from_here : (index : ℕ) (earlier children : List OutcomesChild) → AllPairs Differ (filter_map (child_of spec) earlier)
      → first_from (child_finding spec) place index (behind earlier children) ≡ None → AllPairs Differ (filter_map (child_of spec) (earlier ++ children))
  differ_from_here index earlier [] so_far e = subst (λ cs. AllPairs Differ (filter_map (child_of spec) cs)) (sym (append-nil earlier)) so_far
  differ_from_here index earlier (child ∷ children) so_far e =
      let here = child_finding spec (place # index) (earlier, child) in
      let rest = first_from (child_finding spec) place (suc index) (behind (earlier ++ child ∷ []) children) in
      subst (λ cs. AllPairs Differ (filter_map (child_of spec) cs)) (append_assoc earlier (child ∷ []) children)
      (differ_from_here (suc index) (earlier ++ child ∷ []) children
      (next_differs spec child earlier (is_new (place # index) earlier child (first_none here rest e)) so_far)
      (rest_none here rest e))

none_differ : AllPairs Differ []
none_differ i j d before inside = let nowhere : ⊥ = omega arith in absurd nowhere

pub children_differ : (spec : RunSpec) (place : Place) (children : List OutcomesChild) → first_in (child_finding spec) place (with_earlier children) ≡ None → AllPairs (λ (a b : Child). is_same_fact a b ≡ false) (filter_map (child_of spec) children)
children_differ spec place children e = differ_from_here spec place 0 [] children none_differ e
