-- The walk from parent to parent finds a cycle.
use Rattle.std.proofs.Common.{◌≡◌, ℕ, zero, suc, ◌+◌, ◌-◌, ◌<◌, Bool, true, false, cond, ◌||◌, eqb, List, [], ◌∷◌, ◌++◌, length, get_or, drop, refl, sym, ap, ◌∙◌, subst, inl, inr, arith}
use Rattle.std.specs.Prelude.{Contains, slice_get, find}
use Rattle.std.specs.List.{IsDistinct}
use Rattle.std.specs.Option.{option_map_or}
use Rattle.std.specs.Cmp.{nat_eq_equiv}
use Rattle.std.proofs.lemmas.Bool.{false≢true, eqb-true, or_cases, cases_lt}
use Rattle.std.proofs.lemmas.List.{length-drop, length_push, get_or-drop, get_or_append_left, get_or_push}
use Rattle.std.proofs.lemmas.List.Folds.{list_any-append}
use Rattle.std.proofs.lemmas.Map.Keys.{IsDistinct-push, IsDistinct-from_apart}
use Rattle.std.proofs.lemmas.Map.Steps.{length-le_from_distinct_below}
use Rattle.tk_graph.specs.Cycle.{is_among, from_first, walk, IsCycle}
use Rattle.tk_graph.proofs.Among.{found, among-head, Contains-from_among}
use Rattle.tk_graph.proofs.LeftOver.{after, has_parent, lt_from_among}

-- where a place stands in a path, and what is from there on
abbrev pub Standing : ℕ → List ℕ → Type 0
Standing place path = (k : ℕ) × (k < length path) × (get_or path k 0 ≡ place) × (from_first place path ≡ drop k path)

standing_in_cons : (b : Bool) (place p : ℕ) (path : List ℕ) → eqb place p ≡ b → (is_among path place ≡ true → Standing place path) → (b || is_among path place) ≡ true → Standing place (p ∷ path)
standing_in_cons true place p path e rest h =
    (0, omega arith, sym (eqb-true place p e), ap (λ b. cond b (p ∷ path) (from_first place path)) e)
standing_in_cons false place p path e rest h =
    let s = rest h in
    let lt : suc s.0 < suc (length path) = omega (arith, s.1) in
    (suc s.0, lt, s.2, ap (λ b. cond b (p ∷ path) (from_first place path)) e ∙ s.3)

pub standing : (place : ℕ) (path : List ℕ) → is_among path place ≡ true → Standing place path
standing place [] h = absurd (false≢true h)
standing place (p ∷ path) h = standing_in_cons (eqb place p) place p path refl (standing place path) h

module _ (above : ℕ → List ℕ) where
  -- each next place is a parent of the one before it
  abbrev pub Chain : List ℕ → Type 0
  Chain xs = (i : ℕ) → i + 1 < length xs → Contains (above (get_or xs i 0)) (get_or xs (i + 1) 0)

  moved : (a b x y : ℕ) → a ≡ b → x ≡ y → Contains (above a) x → Contains (above b) y
  moved a b x y e f c = subst (λ z. Contains (above b) z) f (subst (λ z. Contains (above z) x) e c)

  pub Chain-push : (xs : List ℕ) (x q : ℕ) → Chain (xs ++ x ∷ []) → Contains (above x) q → Chain ((xs ++ x ∷ []) ++ q ∷ [])
  Chain-push xs x q chain c i lt =
      let ys : List ℕ = xs ++ x ∷ [] in
      let long_y : length ys ≡ length xs + 1 = length_push xs x in
      let long_z : length (ys ++ q ∷ []) ≡ length ys + 1 = length_push ys q in
      elim (cases_lt (i + 1) (length ys)) [
        | inl less ↦
            let here : get_or ys i 0 ≡ get_or (ys ++ q ∷ []) i 0 = sym (get_or_append_left ys (q ∷ []) 0 i (omega arith)) in
            let then : get_or ys (i + 1) 0 ≡ get_or (ys ++ q ∷ []) (i + 1) 0 = sym (get_or_append_left ys (q ∷ []) 0 (i + 1) less) in
            moved (get_or ys i 0) (get_or (ys ++ q ∷ []) i 0) (get_or ys (i + 1) 0) (get_or (ys ++ q ∷ []) (i + 1) 0) here then (chain i less)
        | inr past ↦
            let at_x : length xs ≡ i = omega arith in
            let at_q : length ys ≡ i + 1 = omega arith in
            let here : x ≡ get_or (ys ++ q ∷ []) i 0 = sym (get_or_append_left ys (q ∷ []) 0 i (omega arith) ∙ get_or_push xs x 0 i at_x) in
            let then : q ≡ get_or (ys ++ q ∷ []) (i + 1) 0 = sym (get_or_push ys q 0 (i + 1) at_q) in
            moved x (get_or (ys ++ q ∷ []) i 0) q (get_or (ys ++ q ∷ []) (i + 1) 0) here then c
      ]

  -- a path that comes back to one of its places
  cycle_from : (path : List ℕ) (place k : ℕ) → Chain (path ++ place ∷ []) → k < length path → get_or path k 0 ≡ place → IsCycle above (drop k path)
  cycle_from path place k chain lt is =
      let long : length (path ++ place ∷ []) ≡ length path + 1 = length_push path place in
      let short : length (drop k path) ≡ length path - k = length-drop k path in
      record {
        some = omega arith;
        next = λ i below.
            let at : get_or (path ++ place ∷ []) (k + i) 0 ≡ get_or (drop k path) i 0 = get_or_append_left path (place ∷ []) 0 (k + i) (omega arith) ∙ sym (get_or-drop k path i 0) in
            let e : k + i + 1 ≡ k + (i + 1) = omega arith in
            let then : get_or (path ++ place ∷ []) (k + i + 1) 0 ≡ get_or (drop k path) (i + 1) 0 =
            get_or_append_left path (place ∷ []) 0 (k + i + 1) (omega arith) ∙ (ap (λ m. get_or path m 0) e ∙ sym (get_or-drop k path (i + 1) 0)) in
            moved (get_or (path ++ place ∷ []) (k + i) 0) (get_or (drop k path) i 0) (get_or (path ++ place ∷ []) (k + i + 1) 0) (get_or (drop k path) (i + 1) 0) at then (chain (k + i) (omega arith));
        back =
            let m : ℕ = length path - 1 in
            let e : k + (length (drop k path) - 1) ≡ m = omega arith in
            let f : length path ≡ m + 1 = omega arith in
            let at : get_or (path ++ place ∷ []) m 0 ≡ get_or (drop k path) (length (drop k path) - 1) 0 =
            get_or_append_left path (place ∷ []) 0 m (omega arith) ∙ sym (get_or-drop k path (length (drop k path) - 1) 0 ∙ ap (λ j. get_or path j 0) e) in
            let g : k + 0 ≡ k = omega arith in
            let then : get_or (path ++ place ∷ []) (m + 1) 0 ≡ get_or (drop k path) 0 0 =
            get_or_push path place 0 (m + 1) f ∙ (sym is ∙ sym (get_or-drop k path 0 0 ∙ ap (λ j. get_or path j 0) g)) in
            moved (get_or (path ++ place ∷ []) m 0) (get_or (drop k path) (length (drop k path) - 1) 0) (get_or (path ++ place ∷ []) (m + 1) 0) (get_or (drop k path) 0 0) at then (chain m (omega arith));
      }

  repeats : (path : List ℕ) (place : ℕ) → Chain (path ++ place ∷ []) → is_among path place ≡ true → IsCycle above (from_first place path)
  repeats path place chain h =
      let s = standing place path h in
      subst (λ xs. IsCycle above xs) (sym s.3) (cycle_from path place s.0 chain s.1 s.2)

  -- one step of the walk
  abbrev pub turn : (ℕ → Bool) → Bool → ℕ → List ℕ → ℕ → List ℕ
  turn is_left b steps path place =
      elim b [
        | true ↦ from_first place path
        | false ↦ option_map_or (walk above is_left steps (path ++ place ∷ [])) (find is_left (above place)) []
      ]

  module _ (n : ℕ) where
    abbrev left : List ℕ
    left = after above n n

    AllLeft : List ℕ → Type 0
    AllLeft path = (q : ℕ) → is_among path q ≡ true → is_among left q ≡ true

    mutual_step : (b : Bool) (steps : ℕ) (path : List ℕ) (place : ℕ) → is_among path place ≡ b
        → ((next : ℕ) → Chain ((path ++ place ∷ []) ++ next ∷ []) → is_among left next ≡ true → is_among path place ≡ false → IsCycle above (walk above (is_among left) steps (path ++ place ∷ []) next))
        → Chain (path ++ place ∷ []) → is_among left place ≡ true → IsCycle above (turn (is_among left) b steps path place)
    mutual_step true steps path place e rest chain h = repeats path place chain e
    mutual_step false steps path place e rest chain h =
        let f = found (is_among left) (above place) (has_parent above n place h) in
        subst (λ o. IsCycle above (option_map_or (walk above (is_among left) steps (path ++ place ∷ [])) o [])) (sym f.1)
        (rest f.0 (Chain-push path place f.0 chain (Contains-from_among (above place) f.0 f.2)) f.3 e)

    is_cycle : (steps : ℕ) (path : List ℕ) (place : ℕ) → steps + length path ≡ suc n → IsDistinct eqb path → ((q : ℕ) → is_among path q ≡ true → is_among left q ≡ true)
        → Chain (path ++ place ∷ []) → is_among left place ≡ true → IsCycle above (walk above (is_among left) steps path place)
    is_cycle zero path place count distinct inside chain h =
        let most = length-le_from_distinct_below path n distinct (λ q e. lt_from_among above n n q (inside q e)) in
        absurd (omega arith)
    is_cycle (suc steps) path place count distinct inside chain h =
        mutual_step (is_among path place) steps path place refl
        (λ next longer stays new.
        is_cycle steps (path ++ place ∷ []) next
        (let l = length_push path place in omega arith)
        (IsDistinct-push nat_eq_equiv path place distinct new)
        (λ q e. elim (or_cases (is_among path q) (is_among (place ∷ []) q) (sym (list_any-append (λ p. eqb q p) path (place ∷ [])) ∙ e)) [
          | inl old ↦ inside q old
          | inr last ↦ elim (or_cases (eqb q place) false last) [ inl same ↦ ap (is_among left) (eqb-true q place same) ∙ h | inr bad ↦ absurd (false≢true bad) ]
        ])
        longer stays)
        chain h

    -- from any place that is left
    pub walks : (place : ℕ) → is_among left place ≡ true → IsCycle above (walk above (is_among left) (suc n) [] place)
    walks place h =
        is_cycle (suc n) [] place (omega arith) (IsDistinct-from_apart eqb [] (λ i j d lt bad. absurd (omega arith))) (λ q e. absurd (false≢true e)) (λ i lt. absurd (omega arith)) h

    at_head : (xs : List ℕ) → left ≡ xs → (xs ≡ [] → ⊥) → IsCycle above (option_map_or (walk above (is_among left) (suc n) []) (slice_get xs 0) [])
    at_head [] e some = absurd (some refl)
    at_head (x ∷ xs) e some = walks x (ap (λ ys. is_among ys x) e ∙ among-head x xs)

    pub cycle_is : (left ≡ [] → ⊥) → IsCycle above (option_map_or (walk above (is_among left) (suc n) []) (slice_get left 0) [])
    cycle_is some = at_head left refl some
