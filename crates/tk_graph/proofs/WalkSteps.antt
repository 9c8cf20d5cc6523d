-- The steps of the walk.
use Rattle.std.proofs.Common.{◌≡◌, ◌⊎◌, ℕ, suc, ◌+◌, ◌-◌, ◌<◌, ◌≤◌, Bool, true, false, eqb, List, [], ◌∷◌, ◌++◌, length, get_or, set, drop, replicate, Some, None, sym, ap, ◌∙◌, subst, inl, inr, arith}
use Rattle.std.specs.Prelude.{slice_get, slice_index, find}
use Rattle.std.specs.List.{All}
use Rattle.std.specs.Option.{option_map_or}
use Rattle.std.proofs.lemmas.Bool.{cases_lt, cases_eq, eq-eqb, false_from_ne_true}
use Rattle.std.proofs.lemmas.List.{length-set, length-replicate, get_or-replicate, length_push, get_or_append_left, get_or_push, get_or-set_same, get_or-set_other}
use Rattle.std.proofs.lemmas.List.Elements.{All-drop, All-from_get_or}
use Rattle.std.proofs.lemmas.List.Folds.{find_at, list_any_at}
use Rattle.std.proofs.lemmas.List.Sums.{position_or_len_is}
use Rattle.tk_graph.specs.Cycle.{is_among, walk}
use Rattle.tk_graph.specs.Removal.{walked_from}
use Rattle.tk_graph.proofs.CycleFound.{standing, turn}

-- what is found, by its place
pub find_by_place : (test : ℕ → Bool) (xs : List ℕ) (i : ℕ) → i ≤ length xs → ((k : ℕ) → k < i → test (get_or xs k 0) ≡ false) → (i < length xs → test (get_or xs i 0) ≡ true) → find test xs ≡ slice_get xs i
find_by_place test xs i le before at = find_at test xs ∙ ap (slice_get xs) (position_or_len_is test xs i 0 le before at)

module _ (above : ℕ → List ℕ) (is_left : ℕ → Bool) where
  -- the place came before, at k and nowhere else
  pub came_back : (steps : ℕ) (path : List ℕ) (place k : ℕ) → k < length path → get_or path k 0 ≡ place → ((j : ℕ) → j < length path → get_or path j 0 ≡ place → j ≡ k)
      → walk above is_left (suc steps) path place ≡ drop k path
  came_back steps path place k lt is only =
      let among : is_among path place ≡ true = list_any_at (λ p. eqb place p) path k 0 lt (eq-eqb place (get_or path k 0) (sym is)) in
      let s = standing place path among in
      ap (λ b. turn above is_left b steps path place) among ∙ (s.3 ∙ ap (λ j. drop j path) (only s.0 s.1 s.2))

  new_place : (path : List ℕ) (place : ℕ) → ((j : ℕ) → j < length path → get_or path j 0 ≡ place → ⊥) → is_among path place ≡ false
  new_place path place new = false_from_ne_true (is_among path place) (λ h. let s = standing place path h in new s.0 s.1 s.2)

  pub goes_on : (steps : ℕ) (path : List ℕ) (place next : ℕ) → ((j : ℕ) → j < length path → get_or path j 0 ≡ place → ⊥) → Some next ≡ find is_left (above place)
      → walk above is_left (suc steps) path place ≡ walk above is_left steps (path ++ place ∷ []) next
  goes_on steps path place next new found =
      ap (λ b. turn above is_left b steps path place) (new_place path place new)
      ∙ ap (λ o. option_map_or (walk above is_left steps (path ++ place ∷ [])) o []) (sym found)

  pub ends : (steps : ℕ) (path : List ℕ) (place : ℕ) → ((j : ℕ) → j < length path → get_or path j 0 ≡ place → ⊥) → None ≡ find is_left (above place)
      → walk above is_left (suc steps) path place ≡ []
  ends steps path place new found =
      ap (λ b. turn above is_left b steps path place) (new_place path place new)
      ∙ ap (λ o. option_map_or (walk above is_left steps (path ++ place ∷ [])) o []) (sym found)

-- the step at which each place came, or the number of places
pub record IsMarked (count : ℕ) (path coming : List ℕ) : Type 0 where
  pub long : length coming ≡ count
  pub small : (k : ℕ) → k < length path → slice_index path k < count
  pub marks : (k : ℕ) → k < length path → slice_index coming (slice_index path k) ≡ k
  pub marked : (place : ℕ) → place < count → (slice_index coming place ≡ count) ⊎ ((slice_index coming place < length path) × (slice_index path (slice_index coming place) ≡ place))

pub is_new : (count : ℕ) (path coming : List ℕ) (place : ℕ) → IsMarked count path coming → length path ≤ slice_index coming place → (j : ℕ) → j < length path → get_or path j 0 ≡ place → ⊥
is_new count path coming place m late j lt is = let mark = m.marks j lt in let same : slice_index coming (get_or path j 0) ≡ slice_index coming place = ap (slice_index coming) is in omega arith

pub mark_more : (count step : ℕ) (path coming : List ℕ) (place : ℕ) → IsMarked count path coming → length path ≡ step → place < count → length path ≤ slice_index coming place
    → IsMarked count (path ++ place ∷ []) (set coming place step)
mark_more count step path coming place m is lt late =
    let long = m.long in
    let within : place < length coming = omega arith in
    let longer : length (path ++ place ∷ []) ≡ length path + 1 = length_push path place in
    let at_end : get_or (path ++ place ∷ []) step 0 ≡ place = get_or_push path place 0 step is in
    record {
      long = length-set coming place step ∙ m.long;
      small = λ k less.
          elim (cases_lt k (length path)) [
            | inl old ↦ subst (λ v. v < count) (sym (get_or_append_left path (place ∷ []) 0 k old)) (m.small k old)
            | inr past ↦ let e : step ≡ k = omega arith in subst (λ v. v < count) (sym (sym (ap (λ j. get_or (path ++ place ∷ []) j 0) e) ∙ at_end)) lt
          ];
      marks = λ k less.
          elim (cases_lt k (length path)) [
            | inl old ↦
                ap (λ v. get_or (set coming place step) v 0) (get_or_append_left path (place ∷ []) 0 k old)
                ∙ (get_or-set_other coming place (get_or path k 0) step 0 (λ same. is_new count path coming place m late k old same) ∙ m.marks k old)
            | inr past ↦
                let e : step ≡ k = omega arith in
                ap (λ v. get_or (set coming place step) v 0) (sym (ap (λ j. get_or (path ++ place ∷ []) j 0) e) ∙ at_end)
                ∙ (get_or-set_same coming place step 0 within ∙ e)
          ];
      marked = λ p low.
          elim (cases_eq p place) [
            | inl same ↦
                let mark : get_or (set coming place step) p 0 ≡ step = ap (λ q. get_or (set coming place step) q 0) same ∙ get_or-set_same coming place step 0 within in
                inr (omega arith, ap (λ v. get_or (path ++ place ∷ []) v 0) mark ∙ (at_end ∙ sym same))
            | inr other ↦
                let mark : get_or (set coming place step) p 0 ≡ slice_index coming p = get_or-set_other coming place p step 0 other in
                elim (m.marked p low) [
                  | inl none ↦ inl (mark ∙ none)
                  | inr came ↦ inr (omega (arith, came.0), ap (λ v. get_or (path ++ place ∷ []) v 0) mark ∙ (get_or_append_left path (place ∷ []) 0 (slice_index coming p) came.0 ∙ came.1))
                ]
          ];
    }

module _ (above : ℕ → List ℕ) (is_left : ℕ → Bool) (count step : ℕ) (path coming : List ℕ) (place : ℕ)
    (marked : IsMarked count path coming) (steps : length path ≡ step) (more : step < count + 1) (here : place < count) where
  next_step : suc count - step ≡ suc (count - step)
  next_step = omega arith

  rest : suc count - (step + 1) ≡ count - step
  rest = omega arith

  pub walk_back : slice_index coming place < step → walk above is_left (suc count - step) path place ≡ drop (slice_index coming place) path
  walk_back before =
      let k : ℕ = slice_index coming place in
      ap (λ s. walk above is_left s path place) next_step
      ∙ elim (marked.marked place here) [
        | inl none ↦ absurd (omega arith)
        | inr came ↦ came_back above is_left (count - step) path place k came.0 came.1 (λ j lt is. sym (marked.marks j lt) ∙ ap (slice_index coming) is)
      ]

  new : step ≤ slice_index coming place → (j : ℕ) → j < length path → get_or path j 0 ≡ place → ⊥
  new late = is_new count path coming place marked (omega arith)

  pub walk_on : (next : ℕ) → step ≤ slice_index coming place → Some next ≡ find is_left (above place)
      → walk above is_left (suc count - step) path place ≡ walk above is_left (suc count - (step + 1)) (path ++ place ∷ []) next
  walk_on next late found =
      ap (λ s. walk above is_left s path place) next_step
      ∙ (goes_on above is_left (count - step) path place next (new late) found ∙ sym (ap (λ s. walk above is_left s (path ++ place ∷ []) next) rest))

  pub walk_ends : step ≤ slice_index coming place → None ≡ find is_left (above place) → walk above is_left (suc count - step) path place ≡ []
  walk_ends late none = ap (λ s. walk above is_left s path place) next_step ∙ ends above is_left (count - step) path place (new late) none

pub no_steps : (above : ℕ → List ℕ) (is_left : ℕ → Bool) (count step : ℕ) (path : List ℕ) (place : ℕ) → count + 1 ≤ step → walk above is_left (suc count - step) path place ≡ []
no_steps above is_left count step path place le = let e : suc count - step ≡ 0 = omega arith in ap (λ s. walk above is_left s path place) e

pub starts : (above : ℕ → List ℕ) (is_left : ℕ → Bool) (count place : ℕ) (path : List ℕ) → path ≡ [] → walk above is_left (suc count - 0) path place ≡ walked_from above is_left count place
unfolding walked_from
starts above is_left count place path none =
    let e : suc count - 0 ≡ suc count = omega arith in
    ap (λ xs. walk above is_left (suc count - 0) xs place) none ∙ ap (λ s. walk above is_left s [] place) e

pub nothing_marked : (count : ℕ) (path coming : List ℕ) → path ≡ [] → coming ≡ replicate count count → IsMarked count path coming
nothing_marked count path coming none all =
    let empty : length path ≡ 0 = ap length none in
    record {
      long = ap length all ∙ length-replicate count count;
      small = λ k lt. absurd (omega arith);
      marks = λ k lt. absurd (omega arith);
      marked = λ place lt. inl (ap (λ xs. get_or xs place 0) all ∙ get_or-replicate count place count 0 lt);
    }

pub all_small : (count k : ℕ) (path coming : List ℕ) → IsMarked count path coming → All (λ place. place < count) (drop k path)
all_small count k path coming marked =
    All-drop (λ place. place < count) k path (All-from_get_or (λ place. place < count) path 0 marked.small)
