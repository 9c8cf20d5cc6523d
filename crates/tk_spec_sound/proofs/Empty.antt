-- A list is empty where it has no length, and a matrix has an entry where one of its lists isn't.
use Rattle.std.proofs.Common.{◌≡◌, Bool, true, false, not, ◌||◌, List, [], ◌∷◌, length, refl, sym, ap, ◌∙◌, arith}
use Rattle.std.specs.Prelude.{◌==◌}
use Rattle.std.proofs.lemmas.Bool.{ne_eqb}
use Rattle.tk_types.specs.Lists.{is_empty}

empty_is : {X : Type 0} (xs : List X) → (length xs == 0) ≡ is_empty xs
empty_is [] = refl
empty_is (x ∷ xs) = ne_eqb (length (x ∷ xs)) 0 (λ same. omega (arith, same))

pub told_empty : {X : Type 0} (xs : List X) (told : Bool) → told ≡ (length xs == 0) → told ≡ is_empty xs
told_empty xs told is = is ∙ empty_is xs

pub first_has : {X Y : Type 0} (xs : List X) (ys : List Y) (told : Bool) → told ≡ (length xs == 0) → told ≡ false → true ≡ (not (is_empty xs) || not (is_empty ys))
first_has xs ys told is no' =
    let some : is_empty xs ≡ false = sym (told_empty xs told is) ∙ no' in
    rw some refl

pub second_has : {X Y : Type 0} (xs : List X) (ys : List Y) (told also : Bool) → told ≡ (length xs == 0) → told ≡ true → also ≡ (length ys == 0) → not also ≡ (not (is_empty xs) || not (is_empty ys))
second_has xs ys told also is yes' at =
    let none : is_empty xs ≡ true = sym (told_empty xs told is) ∙ yes' in
    rw none (ap not (told_empty ys also at))
