-- What the plain data says of itself: stops, values, objects, runs and labels.
use Rattle.std.specs.Prelude.{ℕ, Bool, true, false, List, ◌++◌, Option, Some, None, codes, bytes_eq, if◌then◌else◌}
use Rattle.tk_types.specs.declared.object.ItemObject.{ItemObject}
use Rattle.tk_types.specs.declared.object.ItemObject.TheVariants.{Task, Pipeline, TaskRun, PipelineRun, Outcomes, Scenario}
use Rattle.tk_types.specs.declared.run.RunSpec.{RunSpec}
use Rattle.tk_types.specs.declared.run.Stop.{Stop}
use Rattle.tk_types.specs.declared.run.Stop.TheVariants.{Failure, StoppedRunFinally, CancelledRunFinally, TasksTimeout, FinallyTimeout, Cancelled, PipelineTimeout}
use Rattle.tk_types.specs.declared.task.PipelineTask.{PipelineTask}
use Rattle.tk_types.specs.declared.value.ParamType.{ParamType}
use Rattle.tk_types.specs.declared.value.ParamType.TheVariants.{Str as text_type, Arr as list_type, Obj as object_type}
use Rattle.tk_types.specs.declared.value.Value.{Value}
use Rattle.tk_types.specs.declared.value.Value.TheVariants.{Str, Arr, Obj}
use Rattle.tk_types.specs.declared.verdict.Verdict.{Verdict}
use Rattle.tk_types.specs.declared.verdict.Verdict.TheVariants.{Ran, Skipped}

-- how far a stop goes: 1 keeps children, 2 stops those of `tasks`, 3 those of `finally` too, 4 all
abbrev pub level_of : Stop → ℕ
level_of Failure = 1
level_of StoppedRunFinally = 1
level_of CancelledRunFinally = 2
level_of TasksTimeout = 2
level_of FinallyTimeout = 3
level_of Cancelled = 4
level_of PipelineTimeout = 4

-- the name of a stop
abbrev pub stop_name : Stop → List ℕ
stop_name Failure = codes "Failure"
stop_name StoppedRunFinally = codes "StoppedRunFinally"
stop_name CancelledRunFinally = codes "CancelledRunFinally"
stop_name TasksTimeout = codes "TasksTimeout"
stop_name FinallyTimeout = codes "FinallyTimeout"
stop_name Cancelled = codes "Cancelled"
stop_name PipelineTimeout = codes "PipelineTimeout"

-- the stops by their names
abbrev pub stop_named : List ℕ → Option Stop
stop_named name =
    if bytes_eq name (codes "Failure") then Some Failure
    else if bytes_eq name (codes "StoppedRunFinally") then Some StoppedRunFinally
    else if bytes_eq name (codes "CancelledRunFinally") then Some CancelledRunFinally
    else if bytes_eq name (codes "TasksTimeout") then Some TasksTimeout
    else if bytes_eq name (codes "FinallyTimeout") then Some FinallyTimeout
    else if bytes_eq name (codes "Cancelled") then Some Cancelled
    else if bytes_eq name (codes "PipelineTimeout") then Some PipelineTimeout
    else None

-- the type of a value
abbrev pub type_of : Value → ParamType
type_of (Str text) = text_type
type_of (Arr texts) = list_type
type_of (Obj pairs) = object_type

-- the number of an object's kind, and its name
abbrev pub kind_of : ItemObject → ℕ
kind_of (Task name spec) = 0
kind_of (Pipeline name spec) = 1
kind_of (TaskRun run) = 2
kind_of (PipelineRun run) = 3
kind_of (Outcomes name spec) = 4
kind_of (Scenario name spec) = 5

abbrev pub name_of : ItemObject → List ℕ
name_of (Task name spec) = name
name_of (Pipeline name spec) = name
name_of (TaskRun run) = run.name
name_of (PipelineRun run) = run.name
name_of (Outcomes name spec) = name
name_of (Scenario name spec) = name

-- all tasks of a run, those of `finally` behind
abbrev pub tasks_of : RunSpec → List PipelineTask
tasks_of spec = spec.tasks ++ spec.finally

-- the task is done
abbrev pub is_done : Verdict → Bool
is_done Ran = true
is_done (Skipped reason) = true
is_done _ = false
