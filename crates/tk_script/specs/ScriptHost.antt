-- A host in memory that plays scripts: the exits of its steps, its files and its answers, by its history.
use Rattle.std.specs.Prelude.{◌≡◌, length, ℕ, Bool, true, false, not, nat_eq, ◌||◌, ◌&&◌, ◌++◌, bytes_eq, codes, if◌then◌else◌, List, [], ◌∷◌, Option, Some, None, find, filter, map, slice_index_or, Contains, Result, MatchResult}
use Rattle.std.specs.List.{list_any, slice_get}
use Rattle.std.specs.Map.{lookup}
use Rattle.std.specs.Option.{option_or}
use Rattle.tk_types.specs.declared.value.Pair.{Pair}
use Rattle.tk_script.specs.declared.pod_script.PodScript.{PodScript}
use Rattle.tk_edge.specs.declared.event.Arming.{Arming}
use Rattle.tk_edge.specs.declared.event.Event.{Event}
use Rattle.tk_edge.specs.declared.event.Event.TheVariants as events
use Rattle.tk_edge.specs.declared.order.Order.{Order}
use Rattle.tk_edge.specs.declared.miss.Miss.{Miss}
use Rattle.tk_edge.specs.declared.miss.Miss.TheVariants as misses
use Rattle.tk_edge.specs.declared.order.Poll.{Poll}
use Rattle.tk_edge.specs.declared.order.Poll.TheVariants as polls
use Rattle.tk_edge.specs.declared.order.Watch.{Watch}
use Rattle.tk_edge.specs.declared.order.Watch.TheVariants as watches
use Rattle.tk_edge.specs.Files.{Files, broken, is_under}
use Rattle.tk_script.specs.declared.file_table.Held.{Held}
use Rattle.tk_script.specs.FileTable.{bytes_at, put_at}
use Rattle.tk_edge.specs.History.{Has, arming_of, exit_of, order_of, was_put}
use Rattle.tk_edge.specs.HostLog.{Logged}
use Rattle.tk_edge.specs.Memory.{leaves, some_passed}
use Rattle.tk_edge.specs.Plays.{Play, played_watch, waiting_watch as waits_by}

-- the folder of all pods, and the scripts
pub record Scripts : Type 0 where
  pub root : List ℕ
  pub pods : List PodScript

-- the script of a pod: the first of its name
abbrev pub script_of : List PodScript → List ℕ → Option PodScript
script_of pods pod = find (λ script. bytes_eq pod script.pod) pods

-- the script at a place, if there is one
abbrev pub script_at : List PodScript → Option ℕ → Option PodScript
script_at pods None = None
script_at pods (Some place) = slice_get pods place

-- the exit of a step: 0 where the script has none
abbrev pub exit_in : Option PodScript → ℕ → ℕ
exit_in None step = 0
exit_in (Some script) step = slice_index_or script.exits step 0

-- the exit of an order's step
abbrev pub scripted_exit : List PodScript → Order → ℕ
scripted_exit pods order = exit_in (script_of pods order.pod) order.step

-- a name that stands in a folder itself
abbrev pub is_plain : Pair → Bool
is_plain file = not (list_any (nat_eq 47) file.key)

-- the file with the path that it has among its pod's results
abbrev pub result_of : List ℕ → List ℕ → Pair → List ℕ × List ℕ
result_of root pod file = (root ++ codes "/" ++ pod ++ codes "/results/" ++ file.key, file.value)

-- the files of a script that stand among the pod's results
abbrev pub results_of : List ℕ → List ℕ → List Pair → List (List ℕ × List ℕ)
results_of root pod files = map (result_of root pod) (filter is_plain files)

-- the files of a script, if there is one
abbrev pub files_in : Option PodScript → List Pair
files_in None = []
files_in (Some script) = script.files

-- all results that are scripted for a pod; of those with one path the first counts
abbrev pub results_for : Scripts → List ℕ → List (List ℕ × List ℕ)
results_for scripts pod = results_of scripts.root pod (files_in (script_of scripts.pods pod))

-- a step of the pod was started
abbrev pub has_begun : List ℕ → List Event → Bool
has_begun pod [] = false
has_begun pod (events.Started child order ∷ older) = bytes_eq pod order.pod || has_begun pod older
has_begun pod (_ ∷ older) = has_begun pod older

-- what a start leaves: the first one of a pod its results
abbrev pub results_at : Scripts → List ℕ → List Event → List (List ℕ × List ℕ)
results_at scripts pod older = if has_begun pod older then [] else results_for scripts pod

-- the file at a path, as puts, clears, first starts and armed entries left it
abbrev pub script_file : Scripts → List ℕ → List Event → Option (List ℕ)
script_file scripts path [] = None
script_file scripts path (events.Put other bytes true ∷ older) = if bytes_eq path other then Some bytes else script_file scripts path older
script_file scripts path (events.Cleared folder true ∷ older) = if is_under folder path then None else script_file scripts path older
script_file scripts path (events.Started child order ∷ older) =
    option_or (lookup (bytes_eq path) (results_at scripts order.pod older)) (script_file scripts path older)
script_file scripts path (events.Exited child exit ∷ older) =
    if leaves path (Some exit) (arming_of child older) then Some [] else script_file scripts path older
script_file scripts path (events.Refused child ∷ older) = if leaves path None (arming_of child older) then Some [] else script_file scripts path older
script_file scripts path (_ ∷ older) = script_file scripts path older

-- all files
abbrev pub script_files : Scripts → List Event → Files
script_files scripts told path = script_file scripts path told

-- the exit is the scripted one of the order that the child was started with
abbrev pub EndsOrder : Scripts → List Event → ℕ → ℕ → Type 0
EndsOrder scripts told child exit = (order : Order) → order_of child told ≡ Some order → exit ≡ scripted_exit scripts.pods order

-- the exit is the scripted one of the order that the child was armed with
abbrev pub EndsArmed : Scripts → List Event → ℕ → ℕ → Type 0
EndsArmed scripts told child exit = (arming : Arming) → arming_of child told ≡ Some arming → exit ≡ scripted_exit scripts.pods arming.order

-- an entry that is refused finds its wait file with `.err`
abbrev pub RefusesScripted : Scripts → Event → List Event → Type 0
RefusesScripted scripts (events.Refused child) older = Has (arming_of child older) (λ arming. Has (script_file scripts (broken arming.wait) older) (λ bytes. Unit {0}))
RefusesScripted scripts _ older = Unit {0}

-- each entry that was refused found it
abbrev pub RefuseAsScripted : Scripts → List Event → Type 0
RefuseAsScripted scripts [] = Unit {0}
RefuseAsScripted scripts (e ∷ older) = RefusesScripted scripts e older × RefuseAsScripted scripts older

-- an index of a history: the files that stand and whether they were put, the pods of which a step was started, the pods
-- that passed with each post file, and the scripted exit of each child; each refusal had its cause
pub record IsPlayed (scripts : Scripts) (told : List Event) (table : List ℕ → Option Held)
    (begun : List ℕ → Bool) (passed : List ℕ → List (List ℕ)) (exits : List ℕ) (children : ℕ) : Type 0 where
  pub files : (path : List ℕ) → bytes_at table path ≡ script_file scripts path told
  pub puts : (path : List ℕ) → put_at table path ≡ was_put path told
  pub begins : (pod : List ℕ) → begun pod ≡ has_begun pod told
  pub passes : (pod path : List ℕ) → list_any (bytes_eq pod) (passed path) ≡ some_passed pod path told told
  pub orders : (child : ℕ) → EndsOrder scripts told child (slice_index_or exits child 0)
  pub armings : (child : ℕ) → EndsArmed scripts told child (slice_index_or exits child 0)
  pub ends : (child exit : ℕ) → exit_of child told ≡ Some exit → slice_index_or exits child 0 ≡ exit
  pub count : length exits ≡ children
  pub refuses : RefuseAsScripted scripts told

-- a record of a history that plays scripts, as contracts see it
pub record Played : Type 0 where
  pub scripts : Scripts
  pub log : Logged

-- what such a host plays: the scripted exits, and its files by its history
abbrev pub play_of : Scripts → Play
play_of scripts = record { exit = λ pod step. exit_in (script_of scripts.pods pod) step; files = script_files scripts }

-- the answer of an entry that waits, by the files that stand
abbrev pub waiting_watch : Scripts → List Event → Arming → Watch
waiting_watch scripts told arming = waits_by (script_files scripts told) told arming

-- the answer of each watch of an armed child
abbrev pub script_watch : Scripts → Bool → ℕ → List Event → Arming → Watch
script_watch scripts killed child told arming = played_watch (play_of scripts) killed child told arming

-- what a watch of a child answers by its script
abbrev pub IsScripted : Scripts → Bool → ℕ → List Event → Watch → Type 0
IsScripted scripts killed child told watch = Has (arming_of child told) (λ arming. watch ≡ script_watch scripts killed child told arming)

-- a poll of a child that was started and isn't armed answers its scripted exit
abbrev pub PollsScripted : Scripts → ℕ → List Event → Poll → Type 0
PollsScripted scripts child told poll =
    (order : Order) → order_of child told ≡ Some order → arming_of child told ≡ None → poll ≡ polls.Exited (scripted_exit scripts.pods order)

-- a host as contracts see it: its scripts, its history, the numbers of the calls that fail, and how many calls there were and failed
pub record Playing : Type 0 where
  pub scripts : Scripts
  pub log : Logged
  pub failing : List ℕ
  pub calls : ℕ
  pub faults : ℕ

-- what a host plays: its script, unless a call is to fail
abbrev pub plays_with : List ℕ → Scripts → Option Play
plays_with [] scripts = Some (play_of scripts)
plays_with (call ∷ calls) scripts = None

abbrev pub plays_of : Playing → Option Play
plays_of host = plays_with host.failing host.scripts

-- each exit that was found is the scripted one
abbrev pub EndAsScripted : Scripts → List Event → Type 0
EndAsScripted scripts told = (child exit : ℕ) (order : Order) → exit_of child told ≡ Some exit → order_of child told ≡ Some order → exit ≡ scripted_exit scripts.pods order

-- all files of a host, which it tells
abbrev pub files_of : Playing → Option Files
files_of host = Some (script_files host.scripts host.log.told)

-- of a call that has to tell that it failed: it fails where its number is among those that fail, or lacks memory
abbrev pub MayMiss : List ℕ → ℕ → Miss → Type 0
MayMiss failing call misses.Failed = Contains failing call
MayMiss failing call misses.Memory = Unit {0}

-- such a call fails exactly where its number is among those that fail, unless it lacks memory
abbrev pub FollowsScript : {T : Type 0} → List ℕ → ℕ → Result T Miss → Type 0
FollowsScript failing call result = MatchResult result (λ _. Contains failing call → ⊥) (MayMiss failing call)
