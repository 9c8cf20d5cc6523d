-- Texts that have a reading.
use Rattle.std.proofs.Common.{List, map, All, subst, arith}
use Rattle.std.proofs.lemmas.List.{get_or-map, length-map}

-- what holds of each value of a function holds of each element
pub All-under_map : {X Y : Type 0} (P : Y → Type 0) (f : X → Y) (xs : List X) → All P (map f xs) → All (λ x. P (f x)) xs
All-under_map P f xs all = λ k d lt. subst P (get_or-map f xs k d (f d) lt) (all k (f d) (omega (arith, length-map xs f)))
