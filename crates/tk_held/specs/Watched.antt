-- Which children of all held pods were watched, and that each was watched once.
use Rattle.std.specs.Prelude.{◌≡◌, ◌⊎◌, ℕ, true, false, List, Some, None, slice_get}
use Rattle.tk_edge.specs.Causes.{raised}
use Rattle.tk_journal.specs.History.{View}
use Rattle.tk_steps.specs.declared.held.HeldPod.{HeldPod}
use Rattle.tk_steps.specs.Watched.{children_of, IsChild, IsWatchedPod}
use Rattle.tk_held.specs.Settled.{settled_in}

-- the child is that of the held pod at the place, which is neither marked nor late
pub record IsWatchable (view : View) (moment : ℕ) (held : List HeldPod) (place child : ℕ) : Type 0 where
  pub pod : HeldPod
  pub at : slice_get held place ≡ Some pod
  pub not_settled : settled_in view moment pod.name ≡ None
  pub own : IsChild pod child

-- each child of the pod at the place was watched once, where it is neither marked nor late and no call for it failed
abbrev pub IsWatchedAt : View → ℕ → List HeldPod → ℕ → (ℕ → ℕ) → (ℕ → ℕ) → Type 0
IsWatchedAt view moment held place before now =
    (pod : HeldPod) → slice_get held place ≡ Some pod → settled_in view moment pod.name ≡ None → pod.failed ≡ false → IsWatchedPod pod before now

-- so it is with each pod
abbrev pub AreWatched : View → ℕ → List HeldPod → (ℕ → ℕ) → (ℕ → ℕ) → Type 0
AreWatched view moment held before now = (place : ℕ) → IsWatchedAt view moment held place before now

-- no other child was watched, and none more than once
abbrev pub WatchesOnly : View → ℕ → List HeldPod → (ℕ → ℕ) → (ℕ → ℕ) → Type 0
WatchesOnly view moment held before now =
    (child : ℕ) → (now child ≡ before child) ⊎ ((place : ℕ) × IsWatchable view moment held place child × (now child ≡ raised (before child)))

-- the same where only the pod at one place may be watched
abbrev pub WatchesOnlyAt : View → ℕ → List HeldPod → ℕ → (ℕ → ℕ) → (ℕ → ℕ) → Type 0
WatchesOnlyAt view moment held place before now =
    (child : ℕ) → (now child ≡ before child) ⊎ (IsWatchable view moment held place child × (now child ≡ raised (before child)))

-- each child was watched at most once
abbrev pub WatchesMost : (ℕ → ℕ) → (ℕ → ℕ) → Type 0
WatchesMost before now = (child : ℕ) → (now child ≡ before child) ⊎ (now child ≡ raised (before child))

-- the pods have the same children, and those of which a call failed keep that
pub record KeepsChildren (old new : HeldPod) : Type 0 where
  pub same : children_of new ≡ children_of old
  pub failed : old.failed ≡ true → new.failed ≡ true

abbrev pub KeepAllChildren : List HeldPod → List HeldPod → Type 0
KeepAllChildren old new =
    (place : ℕ) (a b : HeldPod) → slice_get old place ≡ Some a → slice_get new place ≡ Some b → KeepsChildren a b
