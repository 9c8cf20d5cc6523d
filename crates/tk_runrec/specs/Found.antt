-- The first of a run's children, by task and index.
use Rattle.std.specs.Prelude.{Bool, ◌&&◌, ◌||◌, nat_lt, nat_eq, List, [], ◌∷◌, Option, Some, None, if◌then◌else◌}
use Rattle.tk_runrec.specs.declared.found.Found.{Found}

abbrev pub is_before : Found → Found → Bool
is_before a b = nat_lt a.task b.task || (nat_eq a.task b.task && nat_lt a.index b.index)

-- the earlier of two
abbrev pub sooner : Option Found → Option Found → Option Found
sooner best None = best
sooner None (Some found) = Some found
sooner (Some best) (Some found) = if is_before found best then Some found else Some best

-- the earliest of what the elements give, and of the one that is known
abbrev pub first_found : {X : Type 0} → (X → Option Found) → Option Found → List X → Option Found
first_found finds best [] = best
first_found finds best (x ∷ xs) = first_found finds (sooner best (finds x)) xs
