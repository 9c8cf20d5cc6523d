-- Elements of a list with one more, or with one changed.
use Rattle.std.proofs.Common.{◌≡◌, ◌≢◌, ℕ, zero, suc, List, [], ◌∷◌, ◌++◌, length, Some, refl, ap, inl, inr, arith, set, slice_get}
use Rattle.std.specs.Prelude.{◌⊎◌}

module _ {X : Type 0} where
  pub get_more : (xs : List X) (x y : X) (i : ℕ) → slice_get (xs ++ x ∷ []) i ≡ Some y → (slice_get xs i ≡ Some y) ⊎ ((i ≡ length xs) × (y ≡ x))
  get_more [] x y zero is = inr (refl, cc)
  get_more [] x y (suc i) is = inl is
  get_more (z ∷ xs) x y zero is = inl is
  get_more (z ∷ xs) x y (suc i) is = elim (get_more xs x y i is) [ inl old ↦ inl old | inr last ↦ inr (ap suc last.0, last.1) ]

  pub get_before : (xs : List X) (x y : X) (i : ℕ) → slice_get xs i ≡ Some y → slice_get (xs ++ x ∷ []) i ≡ Some y
  get_before [] x y i is = cc
  get_before (z ∷ xs) x y zero is = is
  get_before (z ∷ xs) x y (suc i) is = get_before xs x y i is

  pub get_last : (xs : List X) (x : X) → slice_get (xs ++ x ∷ []) (length xs) ≡ Some x
  get_last [] x = refl
  get_last (z ∷ xs) x = get_last xs x

  pub get_set : (xs : List X) (x y : X) (i j : ℕ) → slice_get (set xs i x) j ≡ Some y → ((j ≡ i) × (y ≡ x)) ⊎ ((j ≢ i) × (slice_get xs j ≡ Some y))
  get_set [] x y i j is = inr (cc, is)
  get_set (z ∷ xs) x y zero zero is = inl (refl, cc)
  get_set (z ∷ xs) x y zero (suc j) is = inr ((λ same. absurd (omega (arith, same))), is)
  get_set (z ∷ xs) x y (suc i) zero is = inr ((λ same. absurd (omega (arith, same))), is)
  get_set (z ∷ xs) x y (suc i) (suc j) is = elim (get_set xs x y i j is) [
    | inl here ↦ inl (ap suc here.0, here.1)
    | inr there ↦ inr ((λ same. there.0 (omega (arith, same))), there.1)
  ]

  pub set_here : (xs : List X) (x y : X) (i : ℕ) → slice_get xs i ≡ Some y → slice_get (set xs i x) i ≡ Some x
  set_here [] x y i is = cc
  set_here (z ∷ xs) x y zero is = refl
  set_here (z ∷ xs) x y (suc i) is = set_here xs x y i is

  pub set_there : (xs : List X) (x y : X) (i j : ℕ) → j ≢ i → slice_get xs j ≡ Some y → slice_get (set xs i x) j ≡ Some y
  set_there [] x y i j differ is = cc
  set_there (z ∷ xs) x y zero zero differ is = absurd (differ refl)
  set_there (z ∷ xs) x y zero (suc j) differ is = is
  set_there (z ∷ xs) x y (suc i) zero differ is = is
  set_there (z ∷ xs) x y (suc i) (suc j) differ is = set_there xs x y i j (λ same. differ (ap suc same)) is

  pub set_other : (xs : List X) (x : X) (i j : ℕ) → j ≢ i → slice_get (set xs i x) j ≡ slice_get xs j
  set_other [] x i j differ = refl
  set_other (z ∷ xs) x zero zero differ = absurd (differ refl)
  set_other (z ∷ xs) x zero (suc j) differ = refl
  set_other (z ∷ xs) x (suc i) zero differ = refl
  set_other (z ∷ xs) x (suc i) (suc j) differ = set_other xs x i j (λ same. differ (ap suc same))
