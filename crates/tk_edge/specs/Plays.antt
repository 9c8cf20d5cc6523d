-- What a host in memory plays: the exits of its steps, the files that its history leaves, and so the answer of each watch.
use Rattle.std.specs.Prelude.{◌≡◌, ℕ, Bool, true, false, ◌||◌, ◌&&◌, if◌then◌else◌, List, Option, Some, None, is_some}
use Rattle.tk_edge.specs.declared.event.Arming.{Arming}
use Rattle.tk_edge.specs.declared.event.Event.{Event}
use Rattle.tk_edge.specs.declared.order.Watch.{Watch}
use Rattle.tk_edge.specs.declared.order.Watch.TheVariants as watches
use Rattle.tk_edge.specs.Files.{Files, broken}
use Rattle.tk_edge.specs.History.{Has, arming_of, is_refused, order_of, was_put}
use Rattle.tk_edge.specs.Memory.{ended_watch, some_passed}

pub record Play : Type 0 where
  -- the exit of a pod's step
  pub exit : List ℕ → ℕ → ℕ
  -- the files that a history leaves
  pub files : List Event → Files

-- an armed entry starts, by what the host did
abbrev pub may_start : Arming → List Event → Bool
may_start arming told = was_put arming.wait told || some_passed arming.order.pod arming.wait told told

-- the answer of an entry that waits: whether its wait file stands with `.err`, and whether it stands and the entry may start
abbrev pub first_watch : Bool → Bool → Watch
first_watch true ready = watches.Broke None
first_watch false true = watches.Started
first_watch false false = watches.Waits

-- the same, by the files that stand
abbrev pub waiting_watch : Files → List Event → Arming → Watch
waiting_watch files told arming = first_watch (is_some (files (broken arming.wait))) (is_some (files arming.wait) && may_start arming told)

-- the answer of each watch of an armed child
abbrev pub played_watch : Play → Bool → ℕ → List Event → Arming → Watch
played_watch play killed child told arming =
    if is_some (order_of child told) then ended_watch arming.keep_going (play.exit arming.order.pod arming.order.step)
    else if is_refused child told then watches.Broke None
    else if killed then watches.Waits
    else waiting_watch (play.files told) told arming

-- what a watch of a child answers, where the host plays
abbrev pub IsPlayed : Option Play → Bool → ℕ → List Event → Watch → Type 0
IsPlayed None killed child told watch = Unit {0}
IsPlayed (Some play) killed child told watch = Has (arming_of child told) (λ arming. watch ≡ played_watch play killed child told arming)
