-- Expressions that are known to hold or not.
use Rattle.std.proofs.Common.{◌≡◌, [], ◌∷◌, refl, true, false}
use Rattle.std.specs.Prelude.{codes}
use Rattle.tk_guard.specs.When.{all_hold, in_values, not_in_values}

no_expression : all_hold [] ≡ true
no_expression = refl

member : all_hold (in_values (codes "x") (codes "x" ∷ codes "y" ∷ []) ∷ []) ≡ true
member = refl

no_value : all_hold (in_values (codes "x") [] ∷ []) ≡ false
no_value = refl

one_of_two : all_hold (in_values (codes "x") (codes "x" ∷ []) ∷ not_in_values (codes "x") (codes "x" ∷ []) ∷ []) ≡ false
one_of_two = refl
