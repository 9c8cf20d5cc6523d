-- Where nothing is found wrong, nothing is wrong with any part.
use Rattle.std.proofs.Common.{◌≡◌, ℕ, suc, Bool, true, false, List, [], ◌∷◌, map, Option, Some, None, option_map, refl, subst}
use Rattle.std.specs.Prelude.{All}
use Rattle.std.specs.List.{AllByRecursion}
use Rattle.std.specs.Option.{ForSome, option_or}
use Rattle.std.proofs.lemmas.List.Elements.{All-nil, All-cons}
use Rattle.std.proofs.lemmas.Option.{none-some, same_Some}
use Rattle.tk_types.specs.declared.fault.Fault.{Fault}
use Rattle.tk_types.specs.Place.{Place, ◌#◌}
use Rattle.tk_types.specs.First.{Finding, IsNothing, first_from, first_if_there, first_in, first_of, refused_if}

-- by a test
pub not_refused : (test : Bool) (fault : Fault) → refused_if test fault ≡ None → test ≡ false
not_refused true fault e = absurd (let f : ⊥ = cc in f)
not_refused false fault e = refl

-- of two findings
pub first_none : {X : Type 0} (a b : Option X) → option_or a b ≡ None → a ≡ None
first_none None b e = refl
first_none (Some x) b e = e

pub rest_none : {X : Type 0} (a b : Option X) → option_or a b ≡ None → b ≡ None
rest_none None b e = e
rest_none (Some x) b e = absurd (let f : ⊥ = cc in f)

pub map_none : {X Y : Type 0} (f : X → Y) (o : Option X) → option_map f o ≡ None → o ≡ None
map_none f None e = refl
map_none f (Some x) e = absurd (let g : ⊥ = cc in g)

-- of some
pub all_none : (findings : List Finding) → first_of findings ≡ None → AllByRecursion IsNothing findings
all_none [] e = tt
all_none (found ∷ findings) e = (first_none found (first_of findings) e, all_none findings (rest_none found (first_of findings) e))

pub mapped_none : {X : Type 0} (find : X → Finding) (P : X → Type 0) → ((x : X) → find x ≡ None → P x) → (xs : List X) → first_of (map find xs) ≡ None → All P xs
mapped_none find P holds [] e = All-nil P
mapped_none find P holds (x ∷ xs) e =
    All-cons P x xs (holds x (first_none (find x) (first_of (map find xs)) e)) (mapped_none find P holds xs (rest_none (find x) (first_of (map find xs)) e))

-- of what is there
pub there_none : {X : Type 0} (find : X → Finding) (P : X → Type 0) → ((x : X) → find x ≡ None → P x) → (o : Option X) → first_if_there find o ≡ None → ForSome o P
there_none find P holds None e = λ x is. absurd (none-some x is)
there_none find P holds (Some y) e = λ x is. subst P (same_Some y x is) (holds y e)

-- of a list
from_none : {X : Type 0} (check : Place → X → Finding) (P : X → Type 0) → ((at : Place) (x : X) → check at x ≡ None → P x) → (at : Place) (n : ℕ) (xs : List X) → first_from check at n xs ≡ None → All P xs
from_none check P holds at n [] e = All-nil P
from_none check P holds at n (x ∷ xs) e =
    All-cons P x xs
    (holds (at # n) x (first_none (check (at # n) x) (first_from check at (suc n) xs) e))
    (from_none check P holds at (suc n) xs (rest_none (check (at # n) x) (first_from check at (suc n) xs) e))

pub each_none : {X : Type 0} (check : Place → X → Finding) (P : X → Type 0) → ((at : Place) (x : X) → check at x ≡ None → P x) → (at : Place) (xs : List X) → first_in check at xs ≡ None → All P xs
each_none check P holds at xs e = from_none check P holds at 0 xs e
