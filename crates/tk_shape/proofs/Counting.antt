-- All answers of a list, one after the other, as a loop gathers them.
use Rattle.std.proofs.Common.{◌≡◌, ℕ, ◌+◌, ◌<◌, List, ◌∷◌, map, length, get_or, drop, Option, Some, None, refl, sym, ap, ◌∙◌, add_assoc}
use Rattle.std.specs.Prelude.{option_map, sum}
use Rattle.std.proofs.lemmas.List.{at_drop_more}
use Rattle.std.proofs.lemmas.List.Sums.{sum_by-cons}
use Rattle.tk_types.specs.Lists.{all_some}

first_there : {Y Z : Type 0} (g h : List Y → Z) (o : Option Y) (y : Y) (os : List (Option Y)) → o ≡ Some y → ((rest : List Y) → h rest ≡ g (y ∷ rest)) → option_map g (all_some (o ∷ os)) ≡ option_map h (all_some os)
first_there g h o y os there same = ap (λ p. option_map g (all_some (p ∷ os))) there ∙ rest_by (all_some os)
  where
    rest_by : (r : Option (List _)) → option_map g (elim r [ None ↦ None | Some ys ↦ Some (y ∷ ys) ]) ≡ option_map h r
    rest_by None = refl
    rest_by (Some ys) = ap Some (sym (same ys))

-- a turn of the loop: the element at i has this answer
pub turn : {X Y Z : Type 0} (f : X → Option Y) (g h : List Y → Z) (xs : List X) (i : ℕ) (x : X) (y : Y) (all : Option Z) → i < length xs → x ≡ get_or xs i x → f x ≡ Some y → ((rest : List Y) → h rest ≡ g (y ∷ rest))
    → option_map g (all_some (map f (drop i xs))) ≡ all → option_map h (all_some (map f (drop (i + 1) xs))) ≡ all
turn f g h xs i x y all lt is there same before =
    sym (first_there g h (f x) y (map f (drop (i + 1) xs)) there same)
    ∙ (ap (λ z. option_map g (all_some (f z ∷ map f (drop (i + 1) xs)))) is
    ∙ (sym (at_drop_more (λ ys. option_map g (all_some (map f ys))) xs i x lt) ∙ before))

-- one more number
pub sum_more : (done more : ℕ) (rest : List ℕ) → (done + more) + sum rest ≡ done + sum (more ∷ rest)
sum_more done more rest = add_assoc done more (sum rest) ∙ ap (λ n. done + n) (sym (sum_by-cons (λ x. x) more rest))
