-- Files that a call leaves as they are.
use Rattle.std.proofs.Common.{◌≡◌, ℕ, List, Option, Some, None, refl}
use Rattle.tk_edge.specs.Files.{Files, MayChange}

pub may_same : (may : List ℕ → Type 0) (old new : Option Files) → new ≡ old → MayChange may old new
may_same may None new is = is
may_same may (Some old) new is = (old, is, λ path differ. refl)
