-- No name is unknown exactly where all are known.
use Rattle.std.proofs.Common.{◌≡◌, Bool, true, false, not, ◌&&◌, cond, List, [], ◌∷◌, Option, Some, None, ◌↔◌, IsTrue, refl, sym}
use Rattle.std.specs.List.{find, list_all}
use Rattle.std.proofs.lemmas.Bool.{false≢true}
use Rattle.std.proofs.lemmas.Option.{none-some}

known_step : {X : Type 0} (known : Bool) (x : X) (rest : Option X) (all : Bool) → (rest ≡ None → all ≡ true) → cond (not known) (Some x) rest ≡ None → (known && all) ≡ true
known_step true x rest all later none = later none
known_step false x rest all later none = absurd (none-some x (sym none))

unknown_step : {X : Type 0} (known : Bool) (x : X) (rest : Option X) (all : Bool) → (all ≡ true → rest ≡ None) → (known && all) ≡ true → cond (not known) (Some x) rest ≡ None
unknown_step true x rest all later each = later each
unknown_step false x rest all later each = absurd (false≢true each)

all_known : {X : Type 0} (test : X → Bool) (xs : List X) → find (λ x. not (test x)) xs ≡ None → list_all test xs ≡ true
all_known test [] none = refl
all_known test (x ∷ xs) none = known_step (test x) x (find (λ y. not (test y)) xs) (list_all test xs) (all_known test xs) none

none_unknown : {X : Type 0} (test : X → Bool) (xs : List X) → list_all test xs ≡ true → find (λ x. not (test x)) xs ≡ None
none_unknown test [] each = refl
none_unknown test (x ∷ xs) each = unknown_step (test x) x (find (λ y. not (test y)) xs) (list_all test xs) (none_unknown test xs) each

pub unknown_is : {X : Type 0} (test : X → Bool) (xs : List X) → (find (λ x. not (test x)) xs ≡ None) ↔ IsTrue (list_all test xs)
unknown_is test xs = (all_known test xs, none_unknown test xs)
