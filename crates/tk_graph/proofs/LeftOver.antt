-- What is left once each place whose parents are all removed is removed, again and again.
use Rattle.std.proofs.Common.{◌≡◌, ℕ, zero, suc, ◌+◌, ◌<◌, ◌≤◌, Bool, true, false, cond, ◌&&◌, List, [], length, get_or, refl, sym, ap, ◌∙◌, inl, inr, ◌⊎◌, arith}
use Rattle.std.specs.Prelude.{Contains}
use Rattle.std.specs.List.{filter, list_any, range_with_len}
use Rattle.std.proofs.lemmas.Bool.{false≢true, and_parts, and_from, and_right, cases_order}
use Rattle.std.proofs.lemmas.List.{nil_from_length}
use Rattle.std.proofs.lemmas.List.Elements.{filter_agree, Contains-get_or}
use Rattle.std.proofs.lemmas.List.Folds.{list_any_none, list_any_at}
use Rattle.std.proofs.lemmas.List.FromFn.{length-range_with_len}
use Rattle.tk_graph.specs.Cycle.{is_among, kept, after_rounds}
use Rattle.tk_graph.proofs.Among.{among-range, lt_from_range, Contains-from_among, among-filter, filter-filter, filter_all, filter_full, length-filter-le, list_any_weaker, found, nil_from_none_among}

module _ (above : ℕ → List ℕ) (n : ℕ) where
  abbrev pub after : ℕ → List ℕ
  after k = after_rounds above n k

  -- the place has a parent after k rounds
  abbrev held : ℕ → ℕ → Bool
  held k t = list_any (is_among (after k)) (above t)

  pub among-after : (k t : ℕ) → is_among (after (suc k)) t ≡ (is_among (after k) t && held k t)
  among-after k t = among-filter (held k) (after k) t

  -- what is left is ascending: it is kept of all places
  pub after_is : (k : ℕ) → after k ≡ filter (is_among (after k)) (range_with_len 0 n)
  after_is zero = sym (filter_all (is_among (after zero)) (range_with_len 0 n) (λ y h. h))
  after_is (suc k) =
      ap (filter (held k)) (after_is k)
      ∙ (filter-filter (is_among (after k)) (held k) (range_with_len 0 n)
      ∙ filter_agree (λ t. is_among (after k) t && held k t) (is_among (after (suc k))) (λ t. sym (among-after k t)) (range_with_len 0 n))

  pub lt_from_among : (k t : ℕ) → is_among (after k) t ≡ true → t < n
  lt_from_among zero t h = lt_from_range n t h
  lt_from_among (suc k) t h = lt_from_among k t ((and_parts _ _ (sym (among-after k t) ∙ h)).0)

  -- each round removes one, or nothing is removed any more
  shrinks : (k : ℕ) → (length (after k) + k ≤ n) ⊎ (after (suc k) ≡ after k)
  shrinks zero = inl (let e = length-range_with_len 0 n in omega (arith, e))
  shrinks (suc k) =
      let le = length-filter-le (held k) (after k) in
      elim (shrinks k) [
        | inl more ↦ elim (cases_order (length (after (suc k))) (length (after k))) [
          | inl same ↦ inr (ap (kept above) (filter_full (held k) (after k) same))
          | inr other ↦ inl (elim other [ inl less ↦ omega arith | inr past ↦ absurd (omega arith) ])
        ]
        | inr fixed ↦ inr (ap (kept above) fixed)
      ]

  pub fixed : after (suc n) ≡ after n
  fixed =
      elim (shrinks n) [
        | inl more ↦ let none : after n ≡ [] = nil_from_length (after n) (omega arith) in ap (kept above) none ∙ sym none
        | inr same ↦ same
      ]

  -- what is left has a parent that is left
  pub has_parent : (t : ℕ) → is_among (after n) t ≡ true → held n t ≡ true
  has_parent t h = (and_parts _ _ (sym (among-after n t) ∙ (ap (λ ps. is_among ps t) fixed ∙ h))).1

  -- places each of which has a parent among them are never removed
  pub stays : (test : ℕ → Bool) → ((t : ℕ) → test t ≡ true → t < n) → ((t : ℕ) → test t ≡ true → list_any test (above t) ≡ true)
      → (k t : ℕ) → test t ≡ true → is_among (after k) t ≡ true
  stays test small closed zero t h = among-range n t (small t h)
  stays test small closed (suc k) t h =
      among-after k t
      ∙ and_from _ _ (stays test small closed k t h)
      (list_any_weaker test (is_among (after k)) (λ x e. stays test small closed k x e) (above t) (closed t h))

  -- a place of rank below k, where ranks rise below the limit, is removed in k rounds
  pub gone : (rank : ℕ → ℕ) (limit : ℕ) → ((t p : ℕ) → rank t < limit → Contains (above t) p → rank p < rank t)
      → (k t : ℕ) → rank t < limit → rank t < k → is_among (after k) t ≡ false
  gone rank limit rises zero t low less = absurd (omega arith)
  gone rank limit rises (suc k) t low less =
      among-after k t
      ∙ and_right _ _ (list_any_none (is_among (after k)) (above t) (λ i d lt.
      let p = get_or (above t) i d in
      let lower : rank p < rank t = rises t p low (Contains-get_or (above t) i d lt) in
      gone rank limit rises k p (omega arith) (omega arith)))

  -- where ranks rise from each parent to its child nothing is left
  descent : (rank : ℕ → ℕ) → ((t p : ℕ) → Contains (above t) p → rank p < rank t) → (r t : ℕ) → rank t < r → is_among (after n) t ≡ true → ⊥
  descent rank rises zero t less h = omega arith
  descent rank rises (suc r) t less h =
      let f = found (is_among (after n)) (above t) (has_parent t h) in
      let lower : rank f.0 < rank t = rises t f.0 (Contains-from_among (above t) f.0 f.2) in
      descent rank rises r f.0 (omega arith) f.3

  pub none_left : (rank : ℕ → ℕ) → ((t p : ℕ) → Contains (above t) p → rank p < rank t) → after n ≡ []
  none_left rank rises = nil_from_none_among (after n) (λ t h. descent rank rises (suc (rank t)) t (omega arith) h)

  abbrev as_number : Bool → ℕ
  as_number b = cond b 1 0

  -- in how many of the first k rounds the place is still there
  abbrev pub age : ℕ → ℕ → ℕ
  age zero t = 0
  age (suc k) t = age k t + cond (is_among (after k) t) 1 0

  -- a place is removed after its parents
  later : (k t p : ℕ) → t < n → Contains (above t) p → is_among (after k) p ≡ true → is_among (after (suc k)) t ≡ true
  later zero t p lt c h =
      among-after zero t ∙ and_from _ _ (among-range n t lt) (list_any_at (is_among (after zero)) (above t) c.0 p c.1 (ap (is_among (after zero)) c.2 ∙ h))
  later (suc k) t p lt c h =
      let before = (and_parts _ _ (sym (among-after k p) ∙ h)).0 in
      among-after (suc k) t
      ∙ and_from _ _ (later k t p lt c before) (list_any_at (is_among (after (suc k))) (above t) c.0 p c.1 (ap (is_among (after (suc k))) c.2 ∙ h))

  step : (a b : ℕ) (x y : Bool) → (x ≡ true → y ≡ true) → a + 1 ≤ b → a + cond x 1 0 + 1 ≤ b + cond y 1 0
  step a b true true both le = omega arith
  step a b true false both le = absurd (false≢true (both refl))
  step a b false true both le = omega arith
  step a b false false both le = omega arith

  older : (k t p : ℕ) → t < n → Contains (above t) p → age k p + 1 ≤ age (suc k) t
  older zero t p lt c = rw (among-range n t lt) (omega arith)
  older (suc k) t p lt c =
      step (age k p) (age (suc k) t) (is_among (after k) p) (is_among (after (suc k)) t) (later k t p lt c) (older k t p lt c)

  -- where nothing is left there are ranks
  pub ages_rise : after n ≡ [] → (t p : ℕ) → t < n → Contains (above t) p → age n p < age n t
  ages_rise none t p lt c =
      let old = older n t p lt c in
      let end : as_number (is_among (after n) t) ≡ 0 = ap (λ ps. as_number (is_among ps t)) none in
      omega (arith, old, end)
