-- What the kills of a pod's steps come to.
use Rattle.std.specs.Prelude.{◌≡◌, ◌≤◌, ◌+◌, ◌-◌, ◌^◌, ℕ, min, Bool, true, false, List, Some, None, slice_get}
use Rattle.tk_edge.specs.declared.event.Event.{Event}
use Rattle.tk_edge.specs.Memory.{is_named}
use Rattle.tk_steps.specs.declared.held.HeldStep.{HeldStep}

-- the child is that of a step without an exit
pub record IsLiving (steps : List HeldStep) (child : ℕ) : Type 0 where
  pub place : ℕ
  pub step : HeldStep
  pub at : slice_get steps place ≡ Some step
  pub no_exit : step.exit ≡ None
  pub is : step.child ≡ child

-- each child of a step without an exit is killed
abbrev pub AreKilled : (ℕ → Bool) → List HeldStep → Type 0
AreKilled killed steps = (place : ℕ) (step : HeldStep) → slice_get steps place ≡ Some step → step.exit ≡ None → killed step.child ≡ true

-- the history names each step's child
abbrev pub AreNamed : List Event → List HeldStep → Type 0
AreNamed told steps = (place : ℕ) (step : HeldStep) → slice_get steps place ≡ Some step → is_named step.child told ≡ true

-- the count of faults rose, or stands at its end
abbrev pub Rose : ℕ → ℕ → Type 0
Rose before now = min (before + 1) (2 ^ 64 - 1) ≤ now

-- it rose where a call failed, and else it stands as before
abbrev pub CountsKills : Bool → ℕ → ℕ → Type 0
CountsKills true before now = Rose before now × (before ≤ now)
CountsKills false before now = now ≡ before
