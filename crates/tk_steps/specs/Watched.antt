-- Which children were watched, and that each was watched once.
use Rattle.std.specs.Prelude.{◌≡◌, ◌⊎◌, ℕ, List, map, Some, slice_get}
use Rattle.tk_edge.specs.Causes.{raised}
use Rattle.tk_steps.specs.declared.held.HeldPod.{HeldPod}
use Rattle.tk_steps.specs.declared.held.HeldStep.{HeldStep}

-- the children of the pod's armed steps, in order
abbrev pub children_of : HeldPod → List ℕ
children_of pod = map (λ (step : HeldStep). step.child) pod.steps.items

pub record IsChild (pod : HeldPod) (child : ℕ) : Type 0 where
  pub place : ℕ
  pub at : slice_get (children_of pod) place ≡ Some child

-- the child at the place was watched once
abbrev pub IsWatchedAt : HeldPod → ℕ → (ℕ → ℕ) → (ℕ → ℕ) → Type 0
IsWatchedAt pod place before now = (child : ℕ) → slice_get (children_of pod) place ≡ Some child → now child ≡ raised (before child)

-- no child was watched but that at the place, and this at most once
abbrev pub WatchesAt : HeldPod → ℕ → (ℕ → ℕ) → (ℕ → ℕ) → Type 0
WatchesAt pod place before now = (child : ℕ) → (now child ≡ before child) ⊎ ((slice_get (children_of pod) place ≡ Some child) × (now child ≡ raised (before child)))

-- each of the pod's children was watched once
abbrev pub IsWatchedPod : HeldPod → (ℕ → ℕ) → (ℕ → ℕ) → Type 0
IsWatchedPod pod before now = (child : ℕ) → IsChild pod child → now child ≡ raised (before child)

-- no child was watched but those of the pod, and none of these more than once
abbrev pub WatchesPod : HeldPod → (ℕ → ℕ) → (ℕ → ℕ) → Type 0
WatchesPod pod before now = (child : ℕ) → (now child ≡ before child) ⊎ (IsChild pod child × (now child ≡ raised (before child)))
