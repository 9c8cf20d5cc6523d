-- What holds of each member of a list.
use Rattle.std.specs.Prelude.{◌≡◌, ℕ, List, Some, slice_get}

abbrev pub Each : {M : Type 0} → (M → Type 0) → List M → Type 0
Each {M} P members = (i : ℕ) (m : M) → slice_get members i ≡ Some m → P m
