-- Where no fault is found in a list, none is found in an element.
use Rattle.std.proofs.Common.{◌≡◌, List, [], ◌∷◌, map, Some, None, refl}
use Rattle.std.specs.Prelude.{All, Option}
use Rattle.std.specs.Option.{option_or}
use Rattle.std.proofs.lemmas.List.Elements.{All-nil, All-cons}
use Rattle.tk_types.specs.First.{Finding, first_of}

-- of two findings
pub first_none : {X : Type 0} (a b : Option X) → option_or a b ≡ None → a ≡ None
first_none None b e = refl
first_none (Some x) b e = e

pub rest_none : {X : Type 0} (a b : Option X) → option_or a b ≡ None → b ≡ None
rest_none None b e = e
rest_none (Some x) b e = cc

-- of a list
pub mapped_none : {X : Type 0} (find : X → Finding) (P : X → Type 0) → ((x : X) → find x ≡ None → P x) → (xs : List X) → first_of (map find xs) ≡ None → All P xs
mapped_none find P holds [] e = All-nil P
mapped_none find P holds (x ∷ xs) e =
    All-cons P x xs (holds x (first_none (find x) (first_of (map find xs)) e)) (mapped_none find P holds xs (rest_none (find x) (first_of (map find xs)) e))
