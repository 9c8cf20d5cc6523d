-- A history is the list of a journal's entries, the newest first. A position is the number of entries up to it.
use Rattle.std.specs.Prelude.{ℕ, suc, List, [], ◌∷◌, ◌++◌, length, Option, Some, None, Bool, true, false, ◌&&◌, ◌||◌, nat_le, nat_lt, if◌then◌else◌, option_map, option_and_then}
use Rattle.tk_types.specs.declared.run.Facts.{Facts}
use Rattle.tk_types.specs.declared.run.Child.{Child}
use Rattle.tk_types.specs.declared.run.Outcome.{Outcome}
use Rattle.tk_types.specs.declared.verdict.Binding.{Binding}
use Rattle.tk_types.specs.declared.scenario.Kind.{Kind}
use Rattle.tk_types.specs.declared.scenario.Kind.TheVariants as kinds
use Rattle.tk_journal.specs.declared.entry.Fronts.{Fronts}
use Rattle.tk_journal.specs.declared.entry.Entry.{Entry}
use Rattle.tk_journal.specs.declared.object.RunState.{RunState}
use Rattle.tk_journal.specs.declared.object.Scheduled.{Scheduled}
use Rattle.tk_journal.specs.declared.object.TaskRunState.{TaskRunState}
use Rattle.tk_journal.specs.declared.object.Ending.{Ending}
use Rattle.tk_journal.specs.declared.object.Ending.TheVariants as endings
use Rattle.tk_journal.specs.declared.object.PodState.{PodState}
use Rattle.tk_journal.specs.declared.object.Object.{Object}
use Rattle.tk_journal.specs.declared.object.Object.TheVariants as objects
use Rattle.tk_journal.specs.declared.act.Act.{Act}
use Rattle.tk_journal.specs.declared.act.Act.TheVariants as acts
use Rattle.tk_journal.specs.Names.{child_name_of}
use Rattle.tk_journal.specs.Effects.{name_of, is_create, kind_of_admission, same_kind, writes, run_made, run_after, task_run_made, task_run_after, pod_made, pod_after}

-- the history at a position; all of it at one that isn't reached yet
abbrev pub past : ℕ → List Entry → List Entry
past n [] = []
past n (e ∷ older) = if nat_le (suc (length older)) n then e ∷ older else past n older

-- The state of one object: each entry that writes it says what it is from what it was.
abbrev pub state_of : {X : Type 0} → (Entry → Bool) → (List Entry → Entry → Option X → Option X) → List Entry → Option X
state_of mine written [] = None
state_of mine written (e ∷ older) = if mine e then written older e (state_of mine written older) else state_of mine written older

-- it makes the object, or writes it once that is there
abbrev pub counts : Entry → ℕ → Bool
counts e before = is_create e.act || nat_lt 0 before

-- the position of the last entry that writes it, or 0 where none made it
abbrev pub last_of : (Entry → Bool) → List Entry → ℕ
last_of mine [] = 0
last_of mine (e ∷ older) = if mine e && counts e (last_of mine older) then suc (length older) else last_of mine older

abbrev pub run_written : Entry → Option RunState → Option RunState
run_written e None = run_made e.act
run_written e (Some run) = Some (run_after e.moment e.act run)

abbrev pub run_of : List Entry → List ℕ → Option RunState
run_of history name = state_of (writes kinds.Runs name) (λ older e before. run_written e before) history

abbrev pub task_run_written : (List ℕ → Option RunState) → Entry → Option TaskRunState → Option TaskRunState
task_run_written runs e None = task_run_made runs e.act
task_run_written runs e (Some task_run) = Some (task_run_after e.moment e.act task_run)

abbrev pub task_run_of : List Entry → List ℕ → Option TaskRunState
task_run_of history name = state_of (writes kinds.TaskRuns name) (λ older e before. task_run_written (run_of older) e before) history

abbrev pub pod_written : Entry → Option PodState → Option PodState
pod_written e None = pod_made e.act
pod_written e (Some pod) = Some (pod_after e.actor e.act pod)

abbrev pub pod_of : List Entry → List ℕ → Option PodState
pod_of history name = state_of (writes kinds.Pods name) (λ older e before. pod_written e before) history

-- an object of any kind
abbrev pub object_of : Kind → List Entry → List ℕ → Option Object
object_of kinds.Runs history name = option_map objects.Run (run_of history name)
object_of kinds.TaskRuns history name = option_map objects.TaskRun (task_run_of history name)
object_of kinds.Pods history name = option_map objects.Pod (pod_of history name)

-- an object's version, and 0 where it isn't there
abbrev pub version_of : Kind → List ℕ → List Entry → ℕ
version_of kind name history = last_of (writes kind name) history

-- What an actor sees: a cache, or the history itself at three fronts.
pub record View : Type 0 where
  pub run : List ℕ → Option RunState
  pub task_run : List ℕ → Option TaskRunState
  pub pod : List ℕ → Option PodState
  -- the names of the objects of each kind, in order of creation
  pub runs : List (List ℕ)
  pub task_runs : List (List ℕ)
  pub pods : List (List ℕ)

abbrev pub creates : Kind → Act → Bool
creates kinds.Runs (acts.Admit name spec pending asked root) = same_kind (kind_of_admission spec) kinds.Runs
creates kinds.TaskRuns (acts.Admit name spec pending asked root) = same_kind (kind_of_admission spec) kinds.TaskRuns
creates kinds.TaskRuns (acts.MakeTaskRun name run task index mark) = true
creates kinds.Pods (acts.MakePod name task_run attempt plan mark) = true
creates _ _ = false

-- the names of a kind's objects, in order of creation
abbrev pub names_of : Kind → List Entry → List (List ℕ)
names_of kind [] = []
names_of kind (e ∷ older) = if creates kind e.act then names_of kind older ++ name_of e.act ∷ [] else names_of kind older

abbrev pub view_at : Fronts → List Entry → View
view_at fronts history = record {
  run = run_of (past fronts.runs history);
  task_run = task_run_of (past fronts.task_runs history);
  pod = pod_of (past fronts.pods history);
  runs = names_of kinds.Runs (past fronts.runs history);
  task_runs = names_of kinds.TaskRuns (past fronts.task_runs history);
  pods = names_of kinds.Pods (past fronts.pods history);
}

abbrev pub front_of : Kind → Fronts → ℕ
front_of kinds.Runs fronts = fronts.runs
front_of kinds.TaskRuns fronts = fronts.task_runs
front_of kinds.Pods fronts = fronts.pods

-- facts

abbrev pub outcome_of_ending : Ending → Option Outcome
outcome_of_ending (endings.Of outcome) = Some outcome
outcome_of_ending (endings.Unstartable reason) = None

abbrev pub outcome_of : Option TaskRunState → Option Outcome
outcome_of None = None
outcome_of (Some task_run) = option_and_then outcome_of_ending task_run.closed

abbrev pub children_from : (ℕ → Option Outcome) → ℕ → ℕ → List Binding → List Child
children_from outcome task index [] = []
children_from outcome task index (binding ∷ bindings) =
    record { task = task; index = index; outcome = outcome index } ∷ children_from outcome task (suc index) bindings

abbrev pub children_in : (ℕ → ℕ → Option Outcome) → List Scheduled → List Child
children_in outcome [] = []
children_in outcome (s ∷ ss) = children_from (outcome s.task) s.task 0 s.bindings ++ children_in outcome ss

-- what is known of a run, with its children's TaskRuns as they are seen
abbrev pub facts_of : (List ℕ → Option TaskRunState) → RunState → Facts
facts_of task_runs run = record {
  spec = run.spec;
  stops = run.stops;
  children = children_in (λ task index. outcome_of (task_runs (child_name_of run.spec task index))) run.scheduled;
}
