-- The files of a host in memory, and what it answers, by its history.
use Rattle.std.specs.Prelude.{◌≡◌, ℕ, Bool, true, false, ◌||◌, ◌&&◌, bytes_eq, if◌then◌else◌, List, [], ◌∷◌, Option, Some, None}
use Rattle.tk_edge.specs.declared.event.Arming.{Arming}
use Rattle.tk_edge.specs.declared.event.Event.{Event}
use Rattle.tk_edge.specs.declared.event.Event.TheVariants as events
use Rattle.tk_edge.specs.declared.order.Watch.{Watch}
use Rattle.tk_edge.specs.declared.order.Watch.TheVariants as watches
use Rattle.tk_pod.specs.Exits.{passes}
use Rattle.tk_edge.specs.Files.{Files, broken, is_under}
use Rattle.tk_edge.specs.History.{names, arming_of, exit_of}

-- the file that an entry leaves with its exit, or where it was refused
abbrev pub post_of : Option ℕ → Arming → List ℕ
post_of (Some exit) arming = if passes arming.keep_going exit then arming.post else broken arming.post
post_of None arming = broken arming.post

-- the entry leaves it at this path
abbrev pub leaves : List ℕ → Option ℕ → Option Arming → Bool
leaves path exit (Some arming) = bytes_eq path (post_of exit arming)
leaves path exit None = false

-- the file at a path, as puts, clears and armed entries left it
abbrev pub file_of : List ℕ → List Event → Option (List ℕ)
file_of path [] = None
file_of path (events.Put other bytes true ∷ older) = if bytes_eq path other then Some bytes else file_of path older
file_of path (events.Cleared folder true ∷ older) = if is_under folder path then None else file_of path older
file_of path (events.Exited child exit ∷ older) = if leaves path (Some exit) (arming_of child older) then Some [] else file_of path older
file_of path (events.Refused child ∷ older) = if leaves path None (arming_of child older) then Some [] else file_of path older
file_of path (_ ∷ older) = file_of path older

-- all files
abbrev pub files_of : List Event → Files
files_of told path = file_of path told

-- some event names the child
abbrev pub is_named : ℕ → List Event → Bool
is_named child [] = false
is_named child (e ∷ older) = names child e || is_named child older

-- the answer of a watch whose child has this exit
abbrev pub ended_watch : Bool → ℕ → Watch
ended_watch keep_going exit = if passes keep_going exit then watches.Passed exit else watches.Broke (Some exit)

-- an answer with an exit
abbrev pub HasEnded : Watch → Type 0
HasEnded (watches.Passed exit) = Unit {0}
HasEnded (watches.Broke (Some exit)) = Unit {0}
HasEnded _ = ⊥

-- what is found in a history once an event came behind it
abbrev pub FollowsBehind : {X : Type 0} → (List Event → X) → List Event → Event → X → X → Type 0
FollowsBehind find older e found now = find older ≡ found → find (e ∷ older) ≡ now

-- the same behind each history
abbrev pub Follows : {X : Type 0} → (List Event → X) → Event → X → X → Type 0
Follows find e found now = (older : List Event) → FollowsBehind find older e found now

-- an entry of the pod with this post file passed
abbrev pub has_passed_with : List ℕ → List ℕ → Option Arming → Option ℕ → Bool
has_passed_with pod path (Some arming) (Some exit) = bytes_eq arming.order.pod pod && bytes_eq arming.post path && passes arming.keep_going exit
has_passed_with pod path arming exit = false

-- the child is such an entry
abbrev pub child_passed : List ℕ → List ℕ → List Event → ℕ → Bool
child_passed pod path history child = has_passed_with pod path (arming_of child history) (exit_of child history)

-- one of those armed so far, by the whole history
abbrev pub some_passed : List ℕ → List ℕ → List Event → List Event → Bool
some_passed pod path history [] = false
some_passed pod path history (events.Armed child arming ∷ older) = child_passed pod path history child || some_passed pod path history older
some_passed pod path history (_ ∷ older) = some_passed pod path history older
