-- When an entry of a run worker is justified, by what the worker sees.
use Rattle.std.specs.Prelude.{◌≡◌, ◌≢◌, ◌⊎◌, ◌↔◌, ◌<◌, ◌≤◌, ℕ, zero, suc, ◌+◌, List, [], ◌∷◌, ◌++◌, length, Option, Some, None, Bool, true, false, slice_get, IsTrue, All, Contains}
use Rattle.tk_types.specs.declared.run.Facts.{Facts}
use Rattle.tk_types.specs.declared.run.RunSpec.{RunSpec}
use Rattle.tk_types.specs.declared.run.Start.TheVariants.{Ready}
use Rattle.tk_types.specs.declared.run.Stop.{Stop}
use Rattle.tk_types.specs.declared.run.Outcome.{Outcome}
use Rattle.tk_types.specs.declared.task.PipelineTask.{PipelineTask}
use Rattle.tk_types.specs.declared.verdict.Binding.{Binding}
use Rattle.tk_types.specs.declared.verdict.Condition.{Condition}
use Rattle.tk_types.specs.declared.verdict.Verdict.{Verdict}
use Rattle.tk_journal.specs.declared.entry.Actor.{Actor}
use Rattle.tk_types.specs.declared.object.Asked.{Asked}
use Rattle.tk_journal.specs.declared.act.Skip.{Skip}
use Rattle.tk_journal.specs.declared.act.Closing.{Closing}
use Rattle.tk_journal.specs.declared.object.RunState.{RunState}
use Rattle.tk_journal.specs.declared.object.Scheduled.{Scheduled}
use Rattle.tk_journal.specs.declared.object.TaskRunState.{TaskRunState}
use Rattle.tk_types.specs.Behaviour.{level_of}
use Rattle.tk_verdict.specs.Facts.{is_good}
use Rattle.tk_verdict.specs.Gives.{label_of}
use Rattle.tk_verdict.specs.Labels.{labels_of, ready_bindings}
use Rattle.tk_verdict.specs.Condition.{condition_of, results_of}
use Rattle.tk_verdict.specs.Verdict.{is_done}
use Rattle.tk_verdict.specs.Progress.{AllDone}
use Rattle.tk_journal.specs.Names.{child_name_of}
use Rattle.tk_journal.specs.Lists.{IsThere, Has}
use Rattle.tk_journal.specs.Effects.{is_final, task_count, bindings_for}
use Rattle.tk_journal.specs.History.{View, facts_of, outcome_of}
use Rattle.tk_journal.specs.Stops.{asked_level, asked_stop, IsReached, HasPassed}
use Rattle.tk_types.specs.declared.run.Stop.TheVariants as stops
use Rattle.tk_types.specs.declared.verdict.Verdict.TheVariants as labels
use Rattle.tk_journal.specs.declared.entry.Actor.TheVariants as actors
use Rattle.tk_journal.specs.declared.act.Closing.TheVariants as closings

-- a task is done
abbrev pub IsDone : Verdict → Type 0
IsDone label = IsTrue (is_done label)

-- a child of `tasks` that ended and isn't good
pub record BadChild (spec : RunSpec) (outcome_of_child : ℕ → ℕ → Option Outcome) (scheduled : List Scheduled) : Type 0 where
  pub part : Scheduled
  pub scheduled_part : Contains scheduled part
  pub index : ℕ
  pub within : index < length part.bindings
  pub task : PipelineTask
  pub of_tasks : slice_get spec.tasks part.task ≡ Some task
  pub outcome : Outcome
  pub ended : outcome_of_child part.task index ≡ Some outcome
  pub bad : is_good task outcome ≡ false

abbrev pub facts_in : View → RunState → Facts
facts_in view run = facts_of view.task_run run

-- in order of the tasks
abbrev pub skip_of : ℕ → Verdict → List Skip
skip_of task (labels.Skipped reason) = record { task = task; reason = reason } ∷ []
skip_of task _ = []

abbrev pub skips_from : Facts → ℕ → ℕ → List Skip
skips_from facts task zero = []
skips_from facts task (suc count) = skip_of task (label_of facts task) ++ skips_from facts (suc task) count

abbrev pub skips_of : Facts → List Skip
skips_of facts = skips_from facts 0 (task_count facts.spec)

-- the closing that these facts give
pub record IsClosingOf (facts : Facts) (closing : Closing) : Type 0 where
  pub condition : Condition
  pub decided : condition_of facts (labels_of facts) ≡ Some condition
  pub same : closing ≡ closings.Run condition (skips_of facts) (results_of facts)

-- each child's TaskRun is closed
abbrev pub AreChildrenClosed : (List ℕ → Option TaskRunState) → RunState → Type 0
AreChildrenClosed task_runs run =
    (part : Scheduled) → Contains run.scheduled part → (index : ℕ) → index < length part.bindings
    → Has (task_runs (child_name_of run.spec part.task index)) (λ task_run. IsThere task_run.closed)

-- a child's outcome, as it is seen
abbrev pub outcome_in : View → RunState → ℕ → ℕ → Option Outcome
outcome_in view run task index = outcome_of (view.task_run (child_name_of run.spec task index))

abbrev pub HasBadChild : View → RunState → Type 0
HasBadChild view run = BadChild run.spec (outcome_in view run) run.scheduled

pub record StartRow (run : RunState) : Type 0 where
  pub startable : run.spec.start ≡ Ready
  pub not_pending : run.pending ≡ false
  pub not_started : run.start ≡ None
  pub not_closed : run.closed ≡ None

-- nothing holds back the Schedule of a task of `tasks` (false) or `finally` (true)
abbrev pub MaySchedule : Bool → View → RunState → Type 0
MaySchedule false view run = (run.stops ≡ []) × All (λ a. asked_level a ≡ 0) run.asked × (HasBadChild view run → ⊥)
MaySchedule true view run = All (λ s. level_of s < 3) run.stops × All (λ a. asked_level a < 3) run.asked

pub record ScheduleRow (view : View) (task : ℕ) (bindings : List Binding) (run : RunState) : Type 0 where
  pub started : IsThere run.start
  pub not_closed : run.closed ≡ None
  pub own_bindings : ready_bindings (facts_in view run) (labels_of (facts_in view run)) task ≡ Some bindings
  pub may : MaySchedule (is_final run.spec task) view run

pub record MakeTaskRunRow (view : View) (name : List ℕ) (task index : ℕ) (mark : Bool) (run : RunState) : Type 0 where
  pub child : IsThere (slice_get (bindings_for task run.scheduled) index)
  pub not_closed : run.closed ≡ None
  pub named : name ≡ child_name_of run.spec task index
  pub absent : view.task_run name ≡ None
  pub marked : (mark ≡ true) ↔ IsReached run task

-- the asked stop is the highest one
pub record IsHighestAsked (run : RunState) (stop : Stop) : Type 0 where
  pub status : Asked
  pub asked : Contains run.asked status
  pub same : asked_stop status ≡ Some stop
  pub highest : All (λ a. asked_level a ≤ level_of stop) run.asked

-- a task from the first on, so many, isn't done
abbrev pub IsSomeUndone : Facts → ℕ → ℕ → Type 0
IsSomeUndone facts first count = (task : ℕ) × (first ≤ task) × (task < first + count) × (IsDone (label_of facts task) → ⊥)

abbrev pub HaltCause : View → ℕ → RunState → Stop → Type 0
HaltCause view moment run stops.Failure =
    (run.stops ≡ []) × HasBadChild view run × ((task : ℕ) × (task < length run.spec.tasks) × (bindings_for task run.scheduled ≡ []))
HaltCause view moment run stops.TasksTimeout = IsSomeUndone (facts_in view run) 0 (length run.spec.tasks) × HasPassed run.start run.spec.tasks_ms moment
HaltCause view moment run stops.FinallyTimeout =
    IsSomeUndone (facts_in view run) (length run.spec.tasks) (length run.spec.finally) × HasPassed run.finally_start run.spec.finally_ms moment
HaltCause view moment run stops.PipelineTimeout = IsSomeUndone (facts_in view run) 0 (task_count run.spec) × HasPassed run.start run.spec.pipeline_ms moment
HaltCause view moment run stops.StoppedRunFinally = IsHighestAsked run stops.StoppedRunFinally
HaltCause view moment run stops.CancelledRunFinally = IsHighestAsked run stops.CancelledRunFinally
HaltCause view moment run stops.Cancelled = IsHighestAsked run stops.Cancelled

pub record HaltRow (view : View) (moment : ℕ) (stop : Stop) (run : RunState) : Type 0 where
  pub started : IsThere run.start
  pub not_closed : run.closed ≡ None
  pub above : All (λ s. level_of s < level_of stop) run.stops
  pub cause : HaltCause view moment run stop

pub record CancelRow (view : View) (task_run : TaskRunState) : Type 0 where
  pub not_closed : task_run.closed ≡ None
  pub not_marked : task_run.marked ≡ false
  pub run_name : List ℕ
  pub child : task_run.run ≡ Some run_name
  pub reached : Has (view.run run_name) (λ run. IsReached run task_run.task)

-- startable, started, all over, and each asked level recorded
pub record IsOver (view : View) (run : RunState) : Type 0 where
  pub startable : run.spec.start ≡ Ready
  pub started : IsThere run.start
  pub children : AreChildrenClosed view.task_run run
  pub tasks : AllDone (facts_in view run)
  pub asked : (status : Asked) → Contains run.asked status → 0 < asked_level status → (stop : Stop) × Contains run.stops stop
      × (asked_level status ≤ level_of stop)

pub record CloseRunRow (view : View) (closing : Closing) (run : RunState) : Type 0 where
  pub not_closed : run.closed ≡ None
  pub not_pending : run.pending ≡ false
  pub over : (run.spec.start ≢ Ready) ⊎ IsOver view run
  pub is_closing : IsClosingOf (facts_in view run) closing

-- the actor's part of the row, and the object's
abbrev pub IsRunWorker : Actor → Type 0
IsRunWorker (actors.Runs number) = Unit {0}
IsRunWorker _ = ⊥
