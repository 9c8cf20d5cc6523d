-- What the removal says of the tasks.
use Rattle.std.proofs.Common.{◌≡◌, ℕ, suc, ◌<◌, ◌≤◌, Bool, true, false, ◌&&◌, leb, ltb, List, [], length, get_or, map, Some, None, sym, ap, ◌∙◌, subst, inl, inr, arith, zero-add}
use mathlib.Core.Path.{fun_ext}
use Rattle.std.specs.Prelude.{Contains, slice_get, slice_index, find}
use Rattle.std.specs.List.{range_with_len, list_any}
use Rattle.std.specs.Option.{option_map_or}
use Rattle.std.proofs.lemmas.Bool.{cases_lt, leb-false, ltb-true, lt-ltb, le-leb, lt-leb, and_parts, and_from, false_from_ne_true, leb-true}
use Rattle.std.proofs.lemmas.Option.{slice_get_past, none-some}
use Rattle.std.proofs.lemmas.List.{get_or_past}
use Rattle.std.proofs.lemmas.List.Folds.{list_any_at}
use Rattle.std.proofs.lemmas.List.FromFn.{length-map-range_with_len, get_or-map-range_with_len}
use Rattle.tk_types.specs.Lists.{places_where}
use Rattle.tk_types.specs.declared.task.PipelineTask.{PipelineTask}
use Rattle.tk_graph.specs.Cycle.{is_among, left_of, cycle_of, walk}
use Rattle.tk_graph.specs.Parents.{parents, is_parent, IsRanking}
use Rattle.tk_graph.specs.Removal.{parents_at, is_left, walked_from, IsInside, IsRemoved}
use Rattle.tk_graph.proofs.Among.{Contains-from_among, among-from_Contains, among-range, lt_from_range, found, head-filter, find_agree_within}
use Rattle.tk_graph.proofs.LeftOver.{after_is, lt_from_among, stays, gone}
use Rattle.tk_graph.proofs.TaskParents.{parents_within}

parents_past : (tasks : List PipelineTask) (t : ℕ) → length tasks ≤ t → parents tasks t ≡ []
parents_past tasks t past = ap (λ o. option_map_or (λ (task : PipelineTask). places_where (λ parent. is_parent parent task) tasks) o []) (slice_get_past tasks t past)

any_among : (test : ℕ → Bool) (xs : List ℕ) (x : ℕ) → is_among xs x ≡ true → test x ≡ true → list_any test xs ≡ true
any_among test xs x among pass = let c = Contains-from_among xs x among in list_any_at test xs c.0 x c.1 (ap test c.2 ∙ pass)

find_none : (test : ℕ → Bool) (xs : List ℕ) (x : ℕ) → find test xs ≡ None → is_among xs x ≡ true → test x ≡ false
find_none test xs x none among =
    false_from_ne_true (test x) (λ pass.
    let f = found test xs (any_among test xs x among pass) in
    none-some f.0 (sym none ∙ f.1))

module _ (tasks : List PipelineTask) (above : List (List ℕ)) (made : above ≡ map (parents tasks) (range_with_len 0 (length tasks))) where
  pub length_above : length above ≡ length tasks
  length_above = ap length made ∙ length-map-range_with_len (parents tasks) 0 (length tasks)

  pub parents_at_is : (t : ℕ) → parents_at above t ≡ parents tasks t
  parents_at_is t =
      elim (cases_lt t (length tasks)) [
        | inl lt ↦ ap (λ xs. get_or xs t []) made ∙ get_or-map-range_with_len (parents tasks) 0 (length tasks) t t [] lt (zero-add t)
        | inr past ↦ let long = length_above in get_or_past above t [] (omega arith) ∙ sym (parents_past tasks t past)
      ]

  pub is_inside : IsInside above
  is_inside t p c = let w = parents_within tasks t p (subst (λ ps. Contains ps p) (parents_at_is t) c) in let long = length_above in omega (arith, w.1)

  module _ (ranks : List ℕ) (removed : IsRemoved above ranks) where
    rises : (t p : ℕ) → slice_index ranks t < length tasks → Contains (parents tasks t) p → slice_index ranks p < slice_index ranks t
    rises t p low c =
        let long = length_above in
        let w = parents_within tasks t p c in
        removed.rising t p (omega (arith, w.0)) (omega arith) (subst (λ ps. Contains ps p) (sym (parents_at_is t)) c)

    long_ranks : length ranks ≡ length tasks
    long_ranks = removed.count ∙ length_above

    -- where nothing is left the ranks are ranks
    pub ranking : find (is_left ranks) (range_with_len 0 (length tasks)) ≡ None → IsRanking tasks ranks
    ranking none =
        record {
          count = long_ranks;
          rising = λ parent task c.
              let w = parents_within tasks task parent c in
              let long = long_ranks in
              let low : slice_index ranks task < length ranks =
              leb-false (length ranks) (slice_index ranks task) (find_none (is_left ranks) (range_with_len 0 (length tasks)) task none (among-range (length tasks) task w.0)) in
              rises task parent (omega arith) c;
        }

    abbrev unremoved : ℕ → Bool
    unremoved t = ltb t (length tasks) && leb (length tasks) (slice_index ranks t)

    closed : (t : ℕ) → unremoved t ≡ true → list_any unremoved (parents tasks t) ≡ true
    closed t h =
        let parts = and_parts (ltb t (length tasks)) (leb (length tasks) (slice_index ranks t)) h in
        let low = ltb-true t (length tasks) parts.0 in
        let high = leb-true (length tasks) (slice_index ranks t) parts.1 in
        let long = length_above in
        let l = removed.left t (omega arith) (omega arith) in
        let parent : Contains (parents tasks t) l.0 = subst (λ ps. Contains ps l.0) (parents_at_is t) l.1 in
        let w = parents_within tasks t l.0 parent in
        any_among unremoved (parents tasks t) l.0 (among-from_Contains (parents tasks t) l.0 parent)
        (and_from _ _ (lt-ltb l.0 (length tasks) w.1) (le-leb (length tasks) (slice_index ranks l.0) (omega (arith, l.2))))

    -- what is left is what isn't removed
    left_test : (t : ℕ) → t < length tasks → is_among (left_of tasks) t ≡ is_left ranks t
    left_test t lt =
        let long = long_ranks in
        elim (cases_lt (slice_index ranks t) (length tasks)) [
          | inl done ↦
              gone (parents tasks) (length tasks) (slice_index ranks) (length tasks) rises (length tasks) t done done
              ∙ sym (lt-leb (length ranks) (slice_index ranks t) (omega arith))
          | inr high ↦
              stays (parents tasks) (length tasks) unremoved (λ u h. ltb-true u (length tasks) ((and_parts (ltb u (length tasks)) (leb (length tasks) (slice_index ranks u)) h).0)) closed (length tasks) t
              (and_from _ _ (lt-ltb t (length tasks) lt) (le-leb (length tasks) (slice_index ranks t) high))
              ∙ sym (le-leb (length ranks) (slice_index ranks t) (omega arith))
        ]

    same_test : 0 < length tasks → (t : ℕ) → is_among (left_of tasks) t ≡ is_left ranks t
    same_test some t =
        elim (cases_lt t (length tasks)) [
          | inl lt ↦ left_test t lt
          | inr past ↦
              let long = long_ranks in
              let zeroth : slice_index ranks t ≡ 0 = get_or_past ranks t 0 (omega arith) in
              false_from_ne_true (is_among (left_of tasks) t) (λ h. let lt = lt_from_among (parents tasks) (length tasks) (length tasks) t h in omega arith)
              ∙ sym (lt-leb (length ranks) (slice_index ranks t) (omega arith))
        ]

    head_is : slice_get (left_of tasks) 0 ≡ find (is_left ranks) (range_with_len 0 (length tasks))
    head_is =
        ap (λ xs. slice_get xs 0) (after_is (parents tasks) (length tasks) (length tasks))
        ∙ (head-filter (is_among (left_of tasks)) (range_with_len 0 (length tasks))
        ∙ find_agree_within (is_among (left_of tasks)) (is_left ranks) (range_with_len 0 (length tasks)) (λ y h. left_test y (lt_from_range (length tasks) y h)))

    -- where a place is left, some place is
    pub some_left : (first : ℕ) → Some first ≡ find (is_left ranks) (range_with_len 0 (length tasks)) → left_of tasks ≡ [] → ⊥
    some_left first is none = none-some first (ap (λ xs. slice_get xs 0) (sym none) ∙ (head_is ∙ sym is))

    -- and the walk from the first one finds the cycle
    pub cycle_of_is : (first : ℕ) → first < length tasks → Some first ≡ find (is_left ranks) (range_with_len 0 (length tasks)) → walked_from (parents_at above) (is_left ranks) (length above) first ≡ cycle_of tasks
    unfolding walked_from
    cycle_of_is first lt is =
        let same_parents : parents_at above ≡ parents tasks = fun_ext parents_at_is in
        let tests : is_left ranks ≡ is_among (left_of tasks) = fun_ext (λ t. sym (same_test (omega arith) t)) in
        ap (λ f. walk f (is_left ranks) (suc (length above)) [] first) same_parents
        ∙ (ap (λ test. walk (parents tasks) test (suc (length above)) [] first) tests
        ∙ (ap (λ count. walk (parents tasks) (is_among (left_of tasks)) (suc count) [] first) length_above
        ∙ ap (λ o. option_map_or (walk (parents tasks) (is_among (left_of tasks)) (suc (length tasks)) []) o []) (is ∙ sym head_is)))
