-- The files by which the steps of a pod wait for each other.
use Rattle.std.specs.Prelude.{◌≡◌, ℕ, Bool, false, List, Option, None}
use Rattle.tk_edge.specs.declared.event.Arming.{Arming}
use Rattle.tk_edge.specs.declared.event.Event.{Event}
use Rattle.tk_edge.specs.declared.order.Watch.{Watch}
use Rattle.tk_edge.specs.declared.order.Watch.TheVariants as watches
use Rattle.tk_edge.specs.Files.{Files, WhereTold, IsOwnFile, IsWatchFile, broken}
use Rattle.tk_edge.specs.History.{Has, MayStart, StillWaits, arming_of, exit_of, order_of}

-- the file stands
abbrev pub Stands : List ℕ → Files → Type 0
Stands path files = Has (files path) (λ _. Unit {0})

-- a file that a turn of the armed child may change
abbrev pub IsFileOf : ℕ → List Event → List ℕ → Type 0
IsFileOf child told path = Has (arming_of child told) (λ arming. IsWatchFile arming path)

-- a file that a poll of a child may change: one of its order's, while it wasn't found ended
abbrev pub IsPolledFile : ℕ → List Event → List ℕ → Type 0
IsPolledFile child told path = (exit_of child told ≡ None) × Has (order_of child told) (λ order. IsOwnFile order.pod path)

-- An entry that waits answers as the files say: it is refused where its wait file stands with `.err`, and starts where
-- its wait file stands; one that the history doesn't name counts as not there.
abbrev pub FitsMarkers : Arming → List Event → Files → Watch → Type 0
FitsMarkers arming told files watches.Waits = (Stands (broken arming.wait) files → ⊥) × (Stands arming.wait files → MayStart arming told → ⊥)
FitsMarkers arming told files watches.Started = (Stands (broken arming.wait) files → ⊥) × Stands arming.wait files
FitsMarkers arming told files (watches.Broke None) = Stands (broken arming.wait) files
FitsMarkers arming told files _ = Unit {0}

-- the same of an armed child that waits and isn't killed, where files are told
abbrev pub FollowsMarkers : ℕ → Bool → List Event → Option Files → Watch → Type 0
FollowsMarkers child killed told files watch =
    StillWaits child told → killed ≡ false → WhereTold files (λ f. Has (arming_of child told) (λ arming. FitsMarkers arming told f watch))

-- an armed child whose turn can only wait
pub record OnlyWaits (child : ℕ) (told : List Event) (files : Option Files) : Type 0 where
  pub waits : StillWaits child told
  pub no_exit : exit_of child told ≡ None
  pub files_say : WhereTold files (λ f. Has (arming_of child told) (λ arming. FitsMarkers arming told f watches.Waits))
