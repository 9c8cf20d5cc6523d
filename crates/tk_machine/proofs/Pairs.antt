-- Pairs of the elements of a list.
use Rattle.std.proofs.Common.{suc, List, [], ◌∷◌, ◌++◌, refl, subst, arith, inl, inr, Contains, All, AllPairs}
use Rattle.std.proofs.lemmas.List.Elements.{Contains-append_right, Contains-append_cases, All-weaker, All-contains_itself}
use Rattle.std.proofs.lemmas.List.Kept.{AllPairs-cons}

pub all_of : {X : Type 0} (P : X → Type 0) (xs : List X) → ((x : X) → Contains xs x → P x) → All P xs
all_of P xs each = All-weaker (Contains xs) P each xs (All-contains_itself xs)

pub first_with : {X : Type 0} (R : X → X → Type 0) (x : X) (xs : List X) → AllPairs R (x ∷ xs) → (y : X) → Contains xs y → R x y
first_with R x xs pairs y has = subst (R x) has.2 (pairs 0 (suc has.0) y (omega arith) (omega (arith, has.1)))

pub rest_pairs : {X : Type 0} (R : X → X → Type 0) (x : X) (xs : List X) → AllPairs R (x ∷ xs) → AllPairs R xs
rest_pairs R x xs pairs i j d less below = pairs (suc i) (suc j) d (omega arith) (omega arith)

pub AllPairs-append : {X : Type 0} (R : X → X → Type 0) (xs ys : List X) → AllPairs R xs → AllPairs R ys → ((x y : X) → Contains xs x → Contains ys y → R x y) → AllPairs R (xs ++ ys)
AllPairs-append R [] ys left right across = right
AllPairs-append R (x ∷ xs) ys left right across =
    AllPairs-cons R x (xs ++ ys)
    (all_of (R x) (xs ++ ys) (λ y has. elim (Contains-append_cases xs ys y has) [
      | inl own ↦ first_with R x xs left y own
      | inr other ↦ across x y (0, omega arith, refl) other
    ]))
    (AllPairs-append R xs ys (rest_pairs R x xs left) right (λ a b has_a has_b. across a b (Contains-append_right (x ∷ []) xs a has_a) has_b))
