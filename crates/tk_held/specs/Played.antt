-- That each step of the held pods is watched in order, and what a host that plays answers.
use Rattle.std.specs.Prelude.{◌≡◌, ℕ, Bool, false, List, Option, Some, None, slice_get}
use Rattle.tk_edge.specs.declared.event.Event.{Event}
use Rattle.tk_edge.specs.History.{GoesOn}
use Rattle.tk_edge.specs.Plays.{Play}
use Rattle.tk_journal.specs.History.{View}
use Rattle.tk_steps.specs.declared.held.HeldPod.{HeldPod}
use Rattle.tk_steps.specs.Played.{WatchesFrom}
use Rattle.tk_steps.specs.Watched.{children_of}
use Rattle.tk_held.specs.Settled.{settled_in}

-- all armed steps of the pod were watched, one after the other, somewhere between two moments
pub record IsWatchedThrough (play : Option Play) (killed : ℕ → Bool) (pod : HeldPod) (old new : List Event) : Type 0 where
  pub before : List Event
  pub after : List Event
  pub from_old : GoesOn old before
  pub watches : WatchesFrom play killed pod.name 0 (children_of pod) before after
  pub to_new : GoesOn after new

-- so it is with the pod at the place, where it is neither marked nor late and no call for it failed
abbrev pub IsPlayedAt : View → ℕ → List HeldPod → ℕ → Option Play → (ℕ → Bool) → List Event → List Event → Type 0
IsPlayedAt view moment held place play killed old new =
    (pod : HeldPod) → slice_get held place ≡ Some pod → settled_in view moment pod.name ≡ None → pod.failed ≡ false → IsWatchedThrough play killed pod old new

-- so it is with each pod
abbrev pub ArePlayed : View → ℕ → List HeldPod → Option Play → (ℕ → Bool) → List Event → List Event → Type 0
ArePlayed view moment held play killed old new = (place : ℕ) → IsPlayedAt view moment held place play killed old new
