-- Parents, ancestors and ranks of tasks.
use Rattle.std.proofs.Common.{◌≡◌, ℕ, zero, suc, ◌+◌, ◌-◌, ◌<◌, Bool, true, false, cond, ◌&&◌, ◌||◌, eqb, leb, List, [], ◌∷◌, map, length, get_or, Option, Some, None, refl, sym, ap, ◌∙◌, subst, inl, inr, ◌⊎◌, arith, zero-add}
use Rattle.std.specs.Prelude.{Contains, slice_get, slice_index}
use Rattle.std.specs.List.{enumerate_from, filter, range_with_len}
use Rattle.std.specs.Option.{option_map, option_map_or, unwrap_or}
use Rattle.std.proofs.lemmas.Bool.{false≢true, cases_lt, cases_order, ne_eqb, eq-eqb, le-leb, lt-leb}
use Rattle.std.proofs.lemmas.Option.{slice_get-get_or, slice_get_past, slice_get-map, unwrap_or-slice_get}
use Rattle.std.proofs.lemmas.List.FromFn.{fill_by_all, length-map-range_with_len, get_or-map-range_with_len}
use Rattle.std.proofs.lemmas.List.{length-map}
use Rattle.tk_types.specs.Lists.{places_where}
use Rattle.tk_types.specs.declared.task.PipelineTask.{PipelineTask}
use Rattle.tk_graph.specs.Parents.{parents, is_parent, IsRanking, IsAcyclic, IsAncestor}
use Rattle.tk_graph.specs.Parents.IsAncestor.{is_its_parent, is_above}
use Rattle.tk_graph.specs.Cycle.{name_at, is_among, left_of, cycle_of, IsCycle}
use Rattle.tk_graph.proofs.Among.{among-from_Contains}
use Rattle.tk_graph.proofs.LeftOver.{age, ages_rise, none_left}
use Rattle.tk_graph.proofs.CycleFound.{cycle_is}

abbrev pub passes_at : {X : Type 0} → (X → Bool) → List X → ℕ → Bool
passes_at test xs i = option_map_or test (slice_get xs i) false

abbrev pub places_from : {X : Type 0} → ℕ → (X → Bool) → List X → List ℕ
places_from {X} n test xs = map (λ (e : ℕ × X). e.0) (filter (λ (e : ℕ × X). test e.1) (enumerate_from n xs))

among-places_cond : (b : Bool) (n p : ℕ) {X : Type 0} (x : X) (es : List (ℕ × X))
    → is_among (map (λ (e : ℕ × X). e.0) (cond b ((n, x) ∷ es) es)) p ≡ cond b (eqb p n || is_among (map (λ (e : ℕ × X). e.0) es) p) (is_among (map (λ (e : ℕ × X). e.0) es) p)
among-places_cond true n p x es = refl
among-places_cond false n p x es = refl

none_passes : (b : Bool) → false ≡ (b && false)
none_passes true = refl
none_passes false = refl

at_n : (b : Bool) → cond b (true || false) false ≡ b
at_n true = refl
at_n false = refl

not_at_n : (b r : Bool) → cond b (false || r) r ≡ r
not_at_n true r = refl
not_at_n false r = refl

among-places_from : {X : Type 0} (test : X → Bool) (n : ℕ) (xs : List X) (p : ℕ) → is_among (places_from n test xs) p ≡ (leb n p && passes_at test xs (p - n))
among-places_from test n [] p = none_passes (leb n p)
among-places_from test n (x ∷ xs) p =
    let more : Bool = is_among (places_from (n + 1) test xs) p in
    let before = among-places_from test (n + 1) xs p in
    let opened = among-places_cond (test x) n p x (filter (λ (e : ℕ × _). test e.1) (enumerate_from (n + 1) xs)) in
    opened
    ∙ elim (cases_order p n) [
      | inl same ↦
          let none : more ≡ false = before ∙ ap (λ b. b && passes_at test xs (p - (n + 1))) (lt-leb (n + 1) p (omega arith)) in
          let zeroth : p - n ≡ 0 = omega arith in
          ap (λ b. cond (test x) (b || more) more) (eq-eqb p n same)
          ∙ (ap (λ r. cond (test x) (true || r) r) none
          ∙ (at_n (test x) ∙ sym (ap (λ b. b && passes_at test (x ∷ xs) (p - n)) (le-leb n p (omega arith)) ∙ ap (passes_at test (x ∷ xs)) zeroth)))
      | inr other ↦ elim other [
        | inl less ↦
            let none : more ≡ false = before ∙ ap (λ b. b && passes_at test xs (p - (n + 1))) (lt-leb (n + 1) p (omega arith)) in
            ap (λ b. cond (test x) (b || more) more) (ne_eqb p n (λ e. omega arith))
            ∙ (not_at_n (test x) more ∙ (none ∙ sym (ap (λ b. b && passes_at test (x ∷ xs) (p - n)) (lt-leb n p less))))
        | inr past ↦
            let next : suc (p - (n + 1)) ≡ p - n = omega arith in
            ap (λ b. cond (test x) (b || more) more) (ne_eqb p n (λ e. omega arith))
            ∙ (not_at_n (test x) more
            ∙ (before
            ∙ (ap (λ b. b && passes_at test xs (p - (n + 1))) (le-leb (n + 1) p (omega arith))
            ∙ sym (ap (λ b. b && passes_at test (x ∷ xs) (p - n)) (le-leb n p (omega arith)) ∙ ap (passes_at test (x ∷ xs)) (sym next)))))
      ]
    ]

-- the places of what passes
pub among-places_where : {X : Type 0} (test : X → Bool) (xs : List X) (p : ℕ) → is_among (places_where test xs) p ≡ passes_at test xs p
among-places_where test xs p =
    let same : p - 0 ≡ p = omega arith in
    among-places_from test 0 xs p ∙ (ap (λ b. b && passes_at test xs (p - 0)) (le-leb 0 p (omega arith)) ∙ ap (passes_at test xs) same)

pub passes_within : {X : Type 0} (test : X → Bool) (xs : List X) (i : ℕ) → passes_at test xs i ≡ true → i < length xs
passes_within test xs i h =
    elim (cases_lt i (length xs)) [
      | inl lt ↦ lt
      | inr past ↦ absurd (false≢true (sym (ap (λ o. option_map_or test o false) (slice_get_past xs i past)) ∙ h))
    ]

parent_in : (tasks : List PipelineTask) (found : Option PipelineTask) (p : ℕ)
    → Contains (option_map_or (λ (task : PipelineTask). places_where (λ parent. is_parent parent task) tasks) found []) p → p < length tasks
parent_in tasks None p c = absurd (omega (arith, c.1))
parent_in tasks (Some task) p c =
    passes_within (λ parent. is_parent parent task) tasks p (sym (among-places_where (λ parent. is_parent parent task) tasks p) ∙ among-from_Contains _ p c)

none_past : (tasks : List PipelineTask) (found : Option PipelineTask) (p : ℕ) → found ≡ None
    → Contains (option_map_or (λ (task : PipelineTask). places_where (λ parent. is_parent parent task) tasks) found []) p → ⊥
none_past tasks None p is c = omega (arith, c.1)
none_past tasks (Some task) p is c = cc

-- parents and children are tasks
pub parents_within : (tasks : List PipelineTask) (t p : ℕ) → Contains (parents tasks t) p → (t < length tasks) × (p < length tasks)
parents_within tasks t p c =
    let known : t < length tasks =
    elim (cases_lt t (length tasks)) [
      | inl lt ↦ lt
      | inr past ↦ absurd (none_past tasks (slice_get tasks t) p (slice_get_past tasks t past) c)
    ]
    in
    (known, parent_in tasks (slice_get tasks t) p c)

pub left_from_ranks : (tasks : List PipelineTask) → IsAcyclic tasks → left_of tasks ≡ []
left_from_ranks tasks a = none_left (parents tasks) (length tasks) (slice_index a.0) (λ t p c. a.1.rising p t c)

pub ranks_from_left : (tasks : List PipelineTask) → left_of tasks ≡ [] → IsAcyclic tasks
ranks_from_left tasks none =
    let n : ℕ = length tasks in
    let f : ℕ → ℕ = age (parents tasks) n n in (
      map f (range_with_len 0 n),
      record {
        count = length-map-range_with_len f 0 n;
        rising = λ parent task c.
            let w = parents_within tasks task parent c in
            let low : get_or (map f (range_with_len 0 n)) parent 0 ≡ f parent = get_or-map-range_with_len f 0 n parent parent 0 w.1 (zero-add parent) in
            let high : get_or (map f (range_with_len 0 n)) task 0 ≡ f task = get_or-map-range_with_len f 0 n task task 0 w.0 (zero-add task) in
            let less : f parent < f task = ages_rise (parents tasks) n none task parent w.0 c in
            omega arith;
      },
    )

pub ancestor_lower : (tasks : List PipelineTask) (ranks : List ℕ) → IsRanking tasks ranks → {a t : ℕ} → IsAncestor tasks a t → slice_index ranks a < slice_index ranks t
ancestor_lower tasks ranks r (is_its_parent {parent} {task} c) = r.rising parent task c
ancestor_lower tasks ranks r (is_above {parent} {above} {task} c rest) =
    let low = r.rising parent above c in
    let high = ancestor_lower tasks ranks r rest in
    omega arith

pub no_own_ancestor : (tasks : List PipelineTask) → IsAcyclic tasks → (t : ℕ) → IsAncestor tasks t t → ⊥
no_own_ancestor tasks a t own = let less = ancestor_lower tasks a.0 a.1 own in omega arith

above_first : (tasks : List PipelineTask) (places : List ℕ) → IsCycle (parents tasks) places → (i : ℕ) → i + 1 < length places → IsAncestor tasks (slice_index places (i + 1)) (slice_index places 0)
above_first tasks places c zero lt = is_its_parent (c.next 0 lt)
above_first tasks places c (suc i) lt =
    let e : i + 1 ≡ suc i = omega arith in
    is_above (c.next (suc i) lt) (subst (λ j. IsAncestor tasks (slice_index places j) (slice_index places 0)) e (above_first tasks places c i (omega arith)))

round_trip : (tasks : List PipelineTask) (places : List ℕ) → IsCycle (parents tasks) places → (last : ℕ) → length places - 1 ≡ last → IsAncestor tasks (slice_index places 0) (slice_index places 0)
round_trip tasks places c zero e = is_its_parent (subst (λ j. Contains (parents tasks (slice_index places j)) (slice_index places 0)) e c.back)
round_trip tasks places c (suc i) e =
    let f : length places - 1 ≡ i + 1 = omega arith in
    is_above (subst (λ j. Contains (parents tasks (slice_index places j)) (slice_index places 0)) f c.back) (above_first tasks places c i (omega arith))

nil_or_not : (xs : List ℕ) → (xs ≡ []) ⊎ (xs ≡ [] → ⊥)
nil_or_not [] = inl refl
nil_or_not (x ∷ xs) = inr (λ e. cc)

pub left_is_cyclic : (tasks : List PipelineTask) → (left_of tasks ≡ [] → ⊥) → IsCycle (parents tasks) (cycle_of tasks)
left_is_cyclic tasks some = cycle_is (parents tasks) (length tasks) some

pub acyclic_from_none : (tasks : List PipelineTask) → ((t : ℕ) → IsAncestor tasks t t → ⊥) → IsAcyclic tasks
acyclic_from_none tasks none =
    ranks_from_left tasks (elim (nil_or_not (left_of tasks)) [
      | inl nil ↦ nil
      | inr some ↦ absurd (none (slice_index (cycle_of tasks) 0) (round_trip tasks (cycle_of tasks) (left_is_cyclic tasks some) (length (cycle_of tasks) - 1) refl))
    ])

parents_or : (tasks : List PipelineTask) (found : Option PipelineTask)
    → unwrap_or (option_map (λ (task : PipelineTask). places_where (λ parent. is_parent parent task) tasks) found) [] ≡ option_map_or (λ (task : PipelineTask). places_where (λ parent. is_parent parent task) tasks) found []
parents_or tasks None = refl
parents_or tasks (Some task) = refl

-- the parents of each task, one task after the other
pub map-parents : (tasks : List PipelineTask) → map (λ (task : PipelineTask). places_where (λ parent. is_parent parent task) tasks) tasks ≡ map (parents tasks) (range_with_len 0 (length tasks))
map-parents tasks =
    let g : PipelineTask → List ℕ = λ task. places_where (λ parent. is_parent parent task) tasks in
    fill_by_all (parents tasks) (map g tasks) (length tasks) [] (length-map tasks g) (λ k lt.
    sym (unwrap_or-slice_get (map g tasks) k [])
    ∙ (ap (λ o. unwrap_or o []) (slice_get-map g tasks k) ∙ parents_or tasks (slice_get tasks k)))

-- the name at the place of a task
pub name_at_is : (tasks : List PipelineTask) (p : ℕ) (task : PipelineTask) → p < length tasks → task ≡ get_or tasks p task → name_at tasks p ≡ task.name
name_at_is tasks p task lt is =
    ap (λ o. option_map_or (λ (t : PipelineTask). t.name) o []) (slice_get-get_or tasks p task lt)
    ∙ ap (λ (t : PipelineTask). t.name) (sym is)
