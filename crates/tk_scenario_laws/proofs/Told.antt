-- What holds of a value that is told, if one is.
use Rattle.std.proofs.Common.{Bool, true, false, List, [], ◌∷◌, Option, Some, None, option_map, IfSome}
use Rattle.std.specs.Prelude.{if◌then◌else◌}
use Rattle.std.specs.List.{AllByRecursion}
use Rattle.tk_types.specs.First.{first_of}
use Rattle.tk_scenario.specs.Words.{◌>>=◌, only_if}

-- nothing is asked of it
pub anything : {X : Type 0} (told : Option X) → IfSome told (λ x. Unit {0})
anything None = tt
anything (Some x) = tt

pub only_if_told : {X : Type 0} (P : X → Type 0) (test : Bool) (told : Option X) → IfSome told P → IfSome (only_if test told) P
only_if_told P true told holds = holds
only_if_told P false told holds = tt

pub either_told : {X : Type 0} (P : X → Type 0) (test : Bool) (a b : Option X) → IfSome a P → IfSome b P → IfSome (if test then a else b) P
either_told P true a b holds other = holds
either_told P false a b holds other = other

pub next_told : {A B : Type 0} (Q : A → Type 0) (P : B → Type 0) (told : Option A) (next : A → Option B) → IfSome told Q → ((a : A) → Q a → IfSome (next a) P) → IfSome (told >>= next) P
next_told Q P None next holds follows = tt
next_told Q P (Some a) next holds follows = follows a holds

pub mapped_told : {A B : Type 0} (P : B → Type 0) (f : A → B) (told : Option A) → IfSome told (λ a. P (f a)) → IfSome (option_map f told) P
mapped_told P f None holds = tt
mapped_told P f (Some a) holds = holds

pub first_told : {X : Type 0} (P : X → Type 0) (told : List (Option X)) → AllByRecursion (λ one. IfSome one P) told → IfSome (first_of told) P
first_told P [] holds = tt
first_told P (None ∷ others) holds = first_told P others holds.1
first_told P (Some x ∷ others) holds = holds.0
