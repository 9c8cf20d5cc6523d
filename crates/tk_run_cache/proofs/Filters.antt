-- Which children a filter keeps.
use Rattle.std.proofs.Common.{◌≡◌, List, [], ◌∷◌, map, Bool, true, false, refl, sym, ◌∙◌, ap, ap₂, inl, inr, ◌⊎◌, All, cond}
use Rattle.std.specs.Prelude.{filter}
use Rattle.std.proofs.lemmas.List.Elements.{All-head, All-tail}

module _ {X : Type 0} where
  -- tests that agree on each element
  pub filter_same : (p q : X → Bool) (xs : List X) → All (λ (x : X). p x ≡ q x) xs → filter p xs ≡ filter q xs
  filter_same p q [] same = refl
  filter_same p q (x ∷ xs) same =
      ap₂ (λ (b : Bool) (rest : List X). cond b (x ∷ rest) rest) (All-head (λ (y : X). p y ≡ q y) x xs same)
      (filter_same p q xs (All-tail (λ (y : X). p y ≡ q y) x xs same))

  module _ (g : X → X) (p q r : X → Bool) where
    -- it passes r, and stays as it is to both tests; or it passes neither r nor, once moved, q
    abbrev pub Moves : X → Type 0
    Moves x = ((r x ≡ true) × (g x ≡ x) × (q x ≡ p x)) ⊎ ((r x ≡ false) × (q (g x) ≡ false))

    kept : (x : X) (xs : List X) (b : Bool) → r x ≡ true → cond b (x ∷ filter r xs) (filter r xs) ≡ filter r (cond b (x ∷ xs) xs)
    kept x xs true is = sym (rw is refl)
    kept x xs false is = refl

    left_out : (x : X) (xs : List X) (b : Bool) → r x ≡ false → filter r xs ≡ filter r (cond b (x ∷ xs) xs)
    left_out x xs true is = sym (rw is refl)
    left_out x xs false is = refl

    pub filter_moved : (xs : List X) → All Moves xs → filter q (map g xs) ≡ filter r (filter p xs)
    filter_moved [] each = refl
    filter_moved (x ∷ xs) each =
        let rest : filter q (map g xs) ≡ filter r (filter p xs) = filter_moved xs (All-tail Moves x xs each) in
        elim (All-head Moves x xs each) [
          | inl stays ↦
              ap₂ (λ (y : X) (ys : List X). cond (q y) (y ∷ ys) ys) stays.1 rest
              ∙ ap (λ (b : Bool). cond b (x ∷ filter r (filter p xs)) (filter r (filter p xs))) stays.2
              ∙ kept x (filter p xs) (p x) stays.0
          | inr goes ↦
              ap (λ (b : Bool). cond b (g x ∷ filter q (map g xs)) (filter q (map g xs))) goes.1
              ∙ rest
              ∙ left_out x (filter p xs) (p x) goes.0
        ]
