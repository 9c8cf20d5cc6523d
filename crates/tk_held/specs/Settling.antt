-- What is killed of held pods.
use Rattle.std.specs.Prelude.{◌≡◌, ◌≢◌, ◌⊎◌, ℕ, Bool, true, ◌||◌, is_some, List, Some, None, slice_get}
use Rattle.tk_journal.specs.History.{View}
use Rattle.tk_steps.specs.declared.held.HeldPod.{HeldPod}
use Rattle.tk_steps.specs.Kills.{IsLiving, AreKilled as AreStepsKilled}
use Rattle.tk_held.specs.Settled.{settled_in}

-- the pod is settled, or a call for it failed
abbrev pub is_left_out : View → ℕ → HeldPod → Bool
is_left_out view moment pod = pod.failed || is_some (settled_in view moment pod.name)

-- each armed child of the pod that has no exit was killed
abbrev pub IsKilledPod : (ℕ → Bool) → HeldPod → Type 0
IsKilledPod killed pod = AreStepsKilled killed pod.steps.items

-- so it is with each settled pod
abbrev pub AreKilled : View → ℕ → (ℕ → Bool) → List HeldPod → Type 0
AreKilled view moment killed held =
    (place : ℕ) (pod : HeldPod) → slice_get held place ≡ Some pod → settled_in view moment pod.name ≢ None → IsKilledPod killed pod

-- so it is with every pod
abbrev pub AreAllKilled : (ℕ → Bool) → List HeldPod → Type 0
AreAllKilled killed held = (place : ℕ) (pod : HeldPod) → slice_get held place ≡ Some pod → IsKilledPod killed pod

-- what was killed still is
abbrev pub StayKilled : (ℕ → Bool) → (ℕ → Bool) → Type 0
StayKilled before now = (child : ℕ) → before child ≡ true → now child ≡ true

-- a child without an exit of a settled pod
pub record IsSettledChild (view : View) (moment : ℕ) (pod : HeldPod) (child : ℕ) : Type 0 where
  pub settled : settled_in view moment pod.name ≢ None
  pub living : IsLiving pod.steps.items child

-- nothing was killed but such children of the pod
abbrev pub SparesAllBut : View → ℕ → HeldPod → (ℕ → Bool) → (ℕ → Bool) → Type 0
SparesAllBut view moment pod before now = (child : ℕ) → now child ≡ true → (before child ≡ true) ⊎ IsSettledChild view moment pod child

-- one of a held pod that is settled
pub record IsOfSettled (view : View) (moment : ℕ) (held : List HeldPod) (child : ℕ) : Type 0 where
  pub place : ℕ
  pub pod : HeldPod
  pub at : slice_get held place ≡ Some pod
  pub own : IsSettledChild view moment pod child

-- nothing was killed but children without an exit of settled pods, so none of a pod that goes on
abbrev pub SparesOthers : View → ℕ → List HeldPod → (ℕ → Bool) → (ℕ → Bool) → Type 0
SparesOthers view moment held before now =
    (child : ℕ) → now child ≡ true → (before child ≡ true) ⊎ IsOfSettled view moment held child

-- a child without an exit of a held pod
pub record IsHeldChild (held : List HeldPod) (child : ℕ) : Type 0 where
  pub place : ℕ
  pub pod : HeldPod
  pub at : slice_get held place ≡ Some pod
  pub living : IsLiving pod.steps.items child

-- nothing was killed but such children
abbrev pub KillsHeld : List HeldPod → (ℕ → Bool) → (ℕ → Bool) → Type 0
KillsHeld held before now = (child : ℕ) → now child ≡ true → (before child ≡ true) ⊎ IsHeldChild held child
