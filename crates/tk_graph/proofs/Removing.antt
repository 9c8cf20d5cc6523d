-- The steps of the removal.
use Rattle.std.proofs.Common.{◌≡◌, ◌⊎◌, ℕ, ◌+◌, ◌<◌, ◌≤◌, true, false, cond, leb, nat_le, List, [], ◌∷◌, ◌++◌, length, get_or, set, refl, sym, ap, ◌∙◌, subst, inl, inr, arith}
use Rattle.std.specs.Prelude.{Contains, slice_index, count_by}
use Rattle.std.specs.List.{range_with_len}
use Rattle.std.proofs.lemmas.Bool.{false≢true, cases_lt, cases_eq, le-leb, lt-leb}
use Rattle.std.proofs.lemmas.List.{length-set, length_push, get_or-set_same, get_or-set_other, get_or_append_left, get_or_push, get_or_default, get_or_past}
use Rattle.std.proofs.lemmas.List.Elements.{Contains-get_or}
use Rattle.std.proofs.lemmas.List.Sums.{sum_by-set, get_or-le-sum_by}
use Rattle.tk_graph.specs.Removal.{parents_at, AreChildren, IsInside, IsRemoving, IsRemoved, Waits}
use Rattle.tk_graph.specs.Cycle.{is_among}
use Rattle.tk_graph.proofs.Among.{among-from_Contains, lt_from_range}

-- what holds of an element after a write
at_set : (P : ℕ → Type 0) (xs : List ℕ) (c x j : ℕ) → c < length xs → (j ≡ c → P x) → ((j ≡ c → ⊥) → P (get_or xs j 0)) → P (get_or (set xs c x) j 0)
at_set P xs c x j lt here there =
    elim (cases_eq j c) [
      | inl same ↦ subst P (sym (ap (λ i. get_or (set xs c x) i 0) same ∙ get_or-set_same xs c x 0 lt)) (here same)
      | inr other ↦ subst P (sym (get_or-set_other xs c j x 0 other)) (there other)
    ]

-- what holds of an element holds of one more at the end
at_push : (P : ℕ → Type 0) (xs : List ℕ) (x j : ℕ) → j < length xs → P (get_or xs j 0) → P (get_or (xs ++ x ∷ []) j 0)
at_push P xs x j lt h = subst P (sym (get_or_append_left xs (x ∷ []) 0 j lt)) h

module _ (above : List (List ℕ)) where
  n : ℕ
  n = length above

  pub moved_cursor : (ranks removed cursors : List ℕ) (c k : ℕ) → IsRemoving above ranks removed cursors → c < length above → k ≤ length (parents_at above c)
      → ((j : ℕ) → slice_index cursors c ≤ j → j < k → slice_index ranks (slice_index (parents_at above c) j) < length above)
      → IsRemoving above ranks removed (set cursors c k)
  moved_cursor ranks removed cursors c k r lt most new =
      let long = r.cursors_count in
      let within : c < length cursors = omega arith in
      record {
        ranks_count = r.ranks_count;
        cursors_count = length-set cursors c k ∙ r.cursors_count;
        counted = r.counted;
        places = r.places;
        found = r.found;
        rising = r.rising;
        bounded = λ t low. at_set (λ v. v ≤ length (parents_at above t)) cursors c k t within
            (λ same. subst (λ u. k ≤ length (parents_at above u)) (sym same) most) (λ other. r.bounded t low);
        passed = λ t j low less.
            elim (cases_eq t c) [
              | inl same ↦
                  let less_k : j < k = subst (λ v. j < v) (ap (λ i. get_or (set cursors c k) i 0) same ∙ get_or-set_same cursors c k 0 within) less in
                  subst (λ u. slice_index ranks (slice_index (parents_at above u) j) < length above) (sym same)
                  (elim (cases_lt j (slice_index cursors c)) [ inl old ↦ r.passed c j lt old | inr more ↦ new j more less_k ])
              | inr other ↦ r.passed t j low (subst (λ v. j < v) (get_or-set_other cursors c t k 0 other) less)
            ];
      }

  -- an unremoved place is counted
  room : (ranks removed cursors : List ℕ) (c : ℕ) → IsRemoving above ranks removed cursors → c < length above → length above ≤ slice_index ranks c → length removed < length above
  room ranks removed cursors c r lt high =
      let long = r.ranks_count in
      let count = r.counted in
      let f : ℕ → ℕ = λ rank. cond (leb (length above) rank) 1 0 in
      let one : f (slice_index ranks c) ≡ 1 = ap (λ b. cond b 1 0) (le-leb (length above) (slice_index ranks c) high) in
      let some : f (slice_index ranks c) ≤ count_by (λ rank. nat_le (length above) rank) ranks = get_or-le-sum_by f ranks c 0 (omega arith) in
      omega arith

  pub now_removed : (ranks removed cursors : List ℕ) (c : ℕ) → IsInside above → IsRemoving above ranks removed cursors → c < length above → length above ≤ slice_index ranks c
      → slice_index cursors c ≡ length (parents_at above c) → IsRemoving above (set ranks c (length removed)) (removed ++ c ∷ []) cursors
  now_removed ranks removed cursors c inside r lt high all =
      let m : ℕ = length removed in
      let long = r.ranks_count in
      let within : c < length ranks = omega arith in
      let fits : m < length above = room ranks removed cursors c r lt high in
      let longer : length (removed ++ c ∷ []) ≡ m + 1 = length_push removed c in
      record {
        ranks_count = length-set ranks c m ∙ r.ranks_count;
        cursors_count = r.cursors_count;
        counted =
            let f : ℕ → ℕ = λ rank. cond (leb (length above) rank) 1 0 in
            let one : f (get_or ranks c 0) ≡ 1 = ap (λ b. cond b 1 0) (le-leb (length above) (slice_index ranks c) high) in
            let none : f m ≡ 0 = ap (λ b. cond b 1 0) (lt-leb (length above) m fits) in
            let moved = sum_by-set f ranks c m 0 within in
            let count = r.counted in
            omega arith;
        places = λ k less.
            elim (cases_lt k m) [
              | inl old ↦ at_push (λ v. v < length above) removed c k old (r.places k old)
              | inr past ↦ let e : m ≡ k = omega arith in subst (λ v. v < length above) (sym (get_or_push removed c 0 k e)) lt
            ];
        found = λ t low.
            at_set (λ v. v < length above → (v < length (removed ++ c ∷ [])) × (slice_index (removed ++ c ∷ []) v ≡ t)) ranks c m t within
            (λ same done. (omega arith, get_or_push removed c 0 m refl ∙ sym same))
            (λ other done. let f = r.found t low done in (omega (arith, f.0), get_or_append_left removed (c ∷ []) 0 (slice_index ranks t) f.0 ∙ f.1));
        rising = λ t p low.
            at_set (λ v. v < length above → Contains (parents_at above t) p → slice_index (set ranks c m) p < v) ranks c m t within
            (λ same done parent.
            let parent_c : Contains (parents_at above c) p = subst (λ u. Contains (parents_at above u) p) same parent in
            let least : parent_c.0 < slice_index cursors c = omega (arith, parent_c.1) in
            let at_p : slice_index (parents_at above c) parent_c.0 ≡ p = get_or_default (parents_at above c) parent_c.0 0 p parent_c.1 ∙ parent_c.2 in
            let ranked : slice_index ranks p < length above = subst (λ q. slice_index ranks q < length above) at_p (r.passed c parent_c.0 lt least) in
            let f = r.found p (inside c p parent_c) ranked in
            at_set (λ v. v < m) ranks c m p within (λ own. absurd (let e : slice_index ranks p ≡ slice_index ranks c = ap (slice_index ranks) own in omega arith)) (λ other. f.0))
            (λ other done parent.
            let less = r.rising t p low done parent in
            at_set (λ v. v < slice_index ranks t) ranks c m p within (λ own. absurd (let e : slice_index ranks p ≡ slice_index ranks c = ap (slice_index ranks) own in omega arith)) (λ apart. less));
        bounded = r.bounded;
        passed = λ t k low less.
            at_set (λ v. v < length above) ranks c m (slice_index (parents_at above t) k) within (λ own. fits) (λ other. r.passed t k low less);
      }

  -- what waits still waits, and so does a place whose cursor is at a parent that isn't removed
  pub waits_there : (ranks removed cursors : List ℕ) (c k step t : ℕ) → IsRemoving above ranks removed cursors → c < length above → step ≤ length removed
      → k < length (parents_at above c) → length above ≤ slice_index ranks (slice_index (parents_at above c) k)
      → (t ≡ c) ⊎ Waits above ranks cursors step t → Waits above ranks (set cursors c k) step t
  waits_there ranks removed cursors c k step t r lt le less high old =
      let long = r.cursors_count in
      let count = r.counted in
      let within : c < length cursors = omega arith in
      let later : step ≤ length above = omega arith in
      elim (cases_eq t c) [
        | inl same ↦ inr (
            let at : get_or (set cursors c k) t 0 ≡ k = ap (λ i. get_or (set cursors c k) i 0) same ∙ get_or-set_same cursors c k 0 within in (
              subst (λ v. v < length (parents_at above t)) (sym at) (subst (λ u. k < length (parents_at above u)) (sym same) less),
              subst (λ v. step ≤ slice_index ranks (slice_index (parents_at above t) v)) (sym at)
                  (subst (λ u. step ≤ slice_index ranks (slice_index (parents_at above u) k)) (sym same) (omega arith)),
            ))
        | inr other ↦ elim old [
          | inl same ↦ absurd (other same)
          | inr waits ↦ elim waits [
            | inl done ↦ inl done
            | inr at ↦ inr (subst (λ v. (v < length (parents_at above t)) × (step ≤ slice_index ranks (slice_index (parents_at above t) v))) (sym (get_or-set_other cursors c t k 0 other)) at)
          ]
        ]
      ]

  pub waits_after : (ranks removed cursors : List ℕ) (c k step t : ℕ) → IsRemoving above ranks removed cursors → c < length above → length above ≤ slice_index ranks c → step ≤ length removed
      → t < length above → (t ≡ c) ⊎ Waits above ranks cursors step t → Waits above (set ranks c (length removed)) (set cursors c k) step t
  waits_after ranks removed cursors c k step t r lt high le low old =
      let m : ℕ = length removed in
      let long_r = r.ranks_count in
      let long_c = r.cursors_count in
      let in_ranks : c < length ranks = omega arith in
      let fits : m < length above = room ranks removed cursors c r lt high in
      elim (cases_eq t c) [
        | inl same ↦ inl (at_set (λ v. v < length above) ranks c m t in_ranks (λ e. fits) (λ other. absurd (other same)))
        | inr other ↦ elim old [
          | inl same ↦ absurd (other same)
          | inr waits ↦ elim waits [
            | inl done ↦ inl (at_set (λ v. v < length above) ranks c m t in_ranks (λ e. fits) (λ o. done))
            | inr at ↦ inr (subst (λ v. (v < length (parents_at above t)) × (step ≤ slice_index (set ranks c m) (slice_index (parents_at above t) v))) (sym (get_or-set_other cursors c t k 0 other))
                (at.0, at_set (λ v. step ≤ v) ranks c m (slice_index (parents_at above t) (slice_index cursors t)) in_ranks (λ e. le) (λ o. at.1)))
          ]
        ]
      ]

  -- the cursor moves on over parents that are removed
  pub advanced : (ranks removed cursors : List ℕ) (t k from : ℕ) (parents seen : List ℕ) → IsRemoving above ranks removed cursors → t < length above
      → parents ≡ parents_at above t → seen ≡ ranks → from ≡ get_or cursors t from → k ≤ length parents
      → ((j : ℕ) → from ≤ j → j < k → slice_index seen (slice_index parents j) < length seen) → IsRemoving above ranks removed (set cursors t k)
  advanced ranks removed cursors t k from parents seen r lt parents_is seen_is from_is most passed =
      let long_r = r.ranks_count in
      let long_c = r.cursors_count in
      let start : get_or cursors t 0 ≡ get_or cursors t from = get_or_default cursors t 0 from (omega arith) in
      moved_cursor ranks removed cursors t k r lt (subst (λ ps. k ≤ length ps) parents_is most) (λ j low less.
      let there = subst (λ rs. slice_index rs (slice_index parents j) < length rs) seen_is (passed j (omega arith) less) in
      let at = subst (λ ps. slice_index ranks (slice_index ps j) < length ranks) parents_is there in
      omega arith)

  -- the parents of a place can be looked up
  pub inside_parents : (parents : List ℕ) (t m : ℕ) → IsInside above → parents ≡ parents_at above t → m ≡ length above → (k d : ℕ) → k < length parents → get_or parents k d < m
  inside_parents parents t m inside is long k d lt =
      let p : ℕ = get_or parents k d in
      let among : Contains parents p = Contains-get_or parents k d lt in
      let small = inside t p (subst (λ ps. Contains ps p) is among) in
      omega arith

  -- the cursor is past the last parent
  pub all_parents_removed : (ranks removed cursors : List ℕ) (t k : ℕ) (parents : List ℕ) → IsInside above → IsRemoving above ranks removed cursors → IsRemoving above ranks removed (set cursors t k)
      → t < length above → length above ≤ slice_index ranks t → parents ≡ parents_at above t → k ≡ length parents
      → IsRemoving above (set ranks t (length removed)) (removed ++ t ∷ []) (set cursors t k)
  all_parents_removed ranks removed cursors t k parents inside before moved lt high parents_is all =
      let long = before.cursors_count in
      now_removed ranks removed (set cursors t k) t inside moved lt high (get_or-set_same cursors t k 0 (omega arith) ∙ (all ∙ ap length parents_is))

  -- the parent at the cursor isn't removed
  pub waits_at : (ranks removed cursors : List ℕ) (t k step place : ℕ) (parents seen : List ℕ) → IsRemoving above ranks removed cursors → t < length above → step ≤ length removed
      → parents ≡ parents_at above t → seen ≡ ranks → k < length parents → length seen ≤ slice_index seen (slice_index parents k)
      → (place ≡ t) ⊎ Waits above ranks cursors step place → Waits above ranks (set cursors t k) step place
  waits_at ranks removed cursors t k step place parents seen r lt le parents_is seen_is less high old =
      let long = r.ranks_count in
      let there = subst (λ rs. length rs ≤ slice_index rs (slice_index parents k)) seen_is high in
      let at : length ranks ≤ slice_index ranks (slice_index (parents_at above t) k) = subst (λ ps. length ranks ≤ slice_index ranks (slice_index ps k)) parents_is there in
      waits_there ranks removed cursors t k step place r lt le (subst (λ ps. k < length ps) parents_is less) (omega arith) old

  -- children are places
  pub child_small : (below : List (List ℕ)) (parent child : ℕ) → AreChildren above below → parent < length above → is_among (get_or below parent []) child ≡ true → child < length above
  child_small below parent child are lt h =
      elim (cases_lt child (length above)) [
        | inl small ↦ small
        | inr past ↦
            let none : is_among (parents_at above child) parent ≡ false = ap (λ xs. is_among xs parent) (get_or_past above child [] past) in
            absurd (false≢true (sym none ∙ (sym (are parent child lt) ∙ h)))
      ]

  pub children_exist : (below : List (List ℕ)) (parent : ℕ) (list : List ℕ) → AreChildren above below → parent < length above → list ≡ get_or below parent []
      → (k d : ℕ) → k < length list → get_or list k d < length above
  children_exist below parent list are lt is k d less =
      child_small below parent (get_or list k d) are lt (ap (λ xs. is_among xs (get_or list k d)) (sym is) ∙ among-from_Contains list (get_or list k d) (Contains-get_or list k d less))

  -- after one more removed place, only its children don't wait any more
  pub next_waits : (ranks removed cursors : List ℕ) (below : List (List ℕ)) (i p place : ℕ) (list : List ℕ) → IsInside above → IsRemoving above ranks removed cursors → AreChildren above below
      → i < length removed → p ≡ get_or removed i 0 → list ≡ get_or below p [] → place < length above → Waits above ranks cursors i place
      → (is_among list place ≡ true) ⊎ Waits above ranks cursors (i + 1) place
  next_waits ranks removed cursors below i p place list inside r are lt p_is list_is low waits =
      elim waits [
        | inl done ↦ inr (inl done)
        | inr at ↦
            let q : ℕ = slice_index (parents_at above place) (slice_index cursors place) in
            let among : Contains (parents_at above place) q = Contains-get_or (parents_at above place) (slice_index cursors place) 0 at.0 in
            let small : q < length above = inside place q among in
            elim (cases_lt i (slice_index ranks q)) [
              | inl above_i ↦ inr (inr (at.0, omega arith))
              | inr not_above ↦
                  let count = r.counted in
                  let at_i : slice_index ranks q ≡ i = omega (arith, at.1) in
                  let f = r.found q small (omega arith) in
                  let same : q ≡ p = sym f.1 ∙ (ap (λ j. get_or removed j 0) at_i ∙ sym p_is) in
                  let p_small : p < length above = omega arith in
                  inl (ap (λ xs. is_among xs place) list_is ∙ (are p place p_small ∙ (ap (is_among (parents_at above place)) (sym same) ∙ among-from_Contains (parents_at above place) q among)))
            ]
      ]

  -- nothing more can be removed
  pub removed_all : (ranks removed cursors : List ℕ) (i : ℕ) → IsInside above → IsRemoving above ranks removed cursors → length removed ≤ i
      → ((place : ℕ) → place < length above → Waits above ranks cursors i place) → IsRemoved above ranks
  removed_all ranks removed cursors i inside r le waiting =
      record {
        count = r.ranks_count;
        rising = r.rising;
        left = λ place low high.
            elim (waiting place low) [
              | inl done ↦ absurd (omega arith)
              | inr at ↦
                  let q : ℕ = slice_index (parents_at above place) (slice_index cursors place) in
                  let among : Contains (parents_at above place) q = Contains-get_or (parents_at above place) (slice_index cursors place) 0 at.0 in (
                    q,
                    among,
                    elim (cases_lt (slice_index ranks q) (length above)) [
                      | inl done ↦ let f = r.found q (inside place q among) done in absurd (omega (arith, f.0, at.1))
                      | inr left ↦ left
                    ],
                  )
            ];
      }

pub places_exist : (n : ℕ) (xs : List ℕ) → xs ≡ range_with_len 0 n → (k d : ℕ) → k < length xs → get_or xs k d < n
places_exist n xs is k d lt = lt_from_range n (get_or xs k d) (ap (λ ys. is_among ys (get_or xs k d)) (sym is) ∙ among-from_Contains xs (get_or xs k d) (Contains-get_or xs k d lt))
