-- Asked statuses and recorded stops, and how far a stop reaches (Tekton, PipelineRuns, Cancelling a PipelineRun).
use Rattle.std.specs.Prelude.{◌≡◌, ◌<◌, ◌≤◌, ℕ, ◌+◌, Option, Some, None, Contains, if◌then◌else◌}
use Rattle.tk_types.specs.declared.run.RunSpec.{RunSpec}
use Rattle.tk_types.specs.declared.run.Stop.{Stop}
use Rattle.tk_types.specs.declared.object.Asked.{Asked}
use Rattle.tk_journal.specs.declared.object.RunState.{RunState}
use Rattle.tk_types.specs.Behaviour.{level_of}
use Rattle.tk_journal.specs.Effects.{is_final}
use Rattle.tk_types.specs.declared.run.Stop.TheVariants as stops
use Rattle.tk_types.specs.declared.object.Asked.TheVariants as asks

abbrev pub asked_level : Asked → ℕ
asked_level asks.Start = 0
asked_level asks.StoppedRunFinally = 1
asked_level asks.CancelledRunFinally = 2
asked_level asks.Cancelled = 4
asked_level asks.TaskRunCancelled = 4

-- the stop that a run is asked for
abbrev pub asked_stop : Asked → Option Stop
asked_stop asks.Start = None
asked_stop asks.StoppedRunFinally = Some stops.StoppedRunFinally
asked_stop asks.CancelledRunFinally = Some stops.CancelledRunFinally
asked_stop asks.Cancelled = Some stops.Cancelled
asked_stop asks.TaskRunCancelled = None

-- from which level on a stop reaches the task's children
abbrev pub reach_level : RunSpec → ℕ → ℕ
reach_level spec task = if is_final spec task then 3 else 2

abbrev pub IsReached : RunState → ℕ → Type 0
IsReached run task = (stop : Stop) × Contains run.stops stop × (reach_level run.spec task ≤ level_of stop)

-- when a moment is late enough; a timeout of 0 is none
pub record HasPassed (start : Option ℕ) (timeout moment : ℕ) : Type 0 where
  pub from : ℕ
  pub is : start ≡ Some from
  pub set : 0 < timeout
  pub late : from + timeout ≤ moment
