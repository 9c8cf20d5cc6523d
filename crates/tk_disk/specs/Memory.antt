-- What a crash may leave of a disk in memory.
use Rattle.std.specs.Prelude.{◌≡◌, ◌⊎◌, ◌<◌, ℕ, ◌≤◌, List, [], ◌∷◌, length, take}
use mathlib.Core.Logic.{inl, inr}
use Rattle.std.proofs.Math.Nat.{not-le_of_lt}
use Rattle.tk_disk.specs.Disk.{Torn}
use Rattle.tk_disk.specs.declared.memory.Call.{Call}
use Rattle.tk_disk.specs.declared.memory.Step.{Step}
use Rattle.tk_disk.specs.declared.memory.Step.TheVariants.{Torn as TornAt, Settled}

-- what a contract sees of it
pub record MemoryValue : Type 0 where
  pub start : List ℕ
  pub steps : List Step
  pub bytes : List ℕ
  pub calls : List Call
  pub faults : ℕ

-- what a crash may leave after one more step
abbrev pub stepped : (List ℕ → Type 0) → Step → List ℕ → Type 0
stepped images (TornAt at len) file = (d : List ℕ) × images d × Torn at len d file
stepped images (Settled bytes) file = file ≡ bytes.items

-- and after these steps, one after another
abbrev pub after : (List ℕ → Type 0) → List Step → List ℕ → Type 0
after images [] file = images file
after images (step ∷ steps) file = after (stepped images step) steps file

-- from bytes that were durable
abbrev pub Leaves : List ℕ → List Step → List ℕ → Type 0
Leaves start steps file = after (λ c. c ≡ start) steps file

-- at some earlier moment since t
pub record LeftBefore (start : List ℕ) (steps : List Step) (t : ℕ) (file : List ℕ) : Type 0 where
  pub moment : ℕ
  pub since : t ≤ moment
  pub earlier : moment < length steps
  pub left : Leaves start (take moment steps) file

-- now, or at some earlier moment since t
abbrev pub LeftSince : List ℕ → List Step → ℕ → List ℕ → Type 0
LeftSince start steps t file = Leaves start steps file ⊎ LeftBefore start steps t file

pub only_since : (start : List ℕ) (steps : List Step) (file : List ℕ) → LeftSince start steps (length steps) file → Leaves start steps file
only_since start steps file (inl now) = now
only_since start steps file (inr had) = absurd (not-le_of_lt had.earlier had.since)
