-- What holds of each object that is read, before any rule on it.
use Rattle.std.specs.Prelude.{◌≡◌, ◌<◌, ◌≤◌, ℕ, Bool, true, false, ◌&&◌, List, ◌++◌, length, None, All, IsTrue}
use Rattle.std.specs.Option.{ForSome}
use Rattle.tk_types.specs.declared.object.Asked.{Asked}
use Rattle.tk_types.specs.declared.object.Asked.TheVariants.{StoppedRunFinally, CancelledRunFinally, Cancelled}
use Rattle.tk_types.specs.declared.object.Given3.{Given3}
use Rattle.tk_types.specs.declared.object.Item.{Item}
use Rattle.tk_types.specs.declared.object.ItemObject.{ItemObject}
use Rattle.tk_types.specs.declared.object.ItemObject.TheVariants.{Task, Pipeline, TaskRun, PipelineRun}
use Rattle.tk_types.specs.declared.object.PipelineSource.{PipelineSource}
use Rattle.tk_types.specs.declared.object.PipelineSource.TheVariants.{Named as NamedPipeline, Inlined as InlinedPipeline}
use Rattle.tk_types.specs.declared.object.PipelineSpec.{PipelineSpec}
use Rattle.tk_types.specs.declared.object.RunObject.{RunObject}
use Rattle.tk_types.specs.declared.object.TaskRunObject.{TaskRunObject}
use Rattle.tk_types.specs.declared.task.Matrix.{Matrix}
use Rattle.tk_types.specs.declared.task.PipelineTask.{PipelineTask}
use Rattle.tk_types.specs.declared.task.TaskSource.{TaskSource}
use Rattle.tk_types.specs.declared.task.TaskSource.TheVariants.{Named, Inlined}
use Rattle.tk_types.specs.declared.task.TaskSpec.{TaskSpec}
use Rattle.tk_types.specs.declared.value.Param.{Param}
use Rattle.tk_types.specs.declared.value.ParamSpec.{ParamSpec}
use Rattle.tk_types.specs.Lists.{is_empty}
use Rattle.tk_names.specs.Rules.{is_dns_label, is_object_name, is_param_name}
use Rattle.tk_time.specs.Duration.{longest_duration}
use Rattle.tk_manifest.specs.declared.kinds.KindSet.{KindSet}
use Rattle.tk_manifest.specs.Input.{objects_of, reading_fault}

-- a Task has a step, and its parameters have names
pub record IsReadTask (spec : TaskSpec) : Type 0 where
  pub steps : 0 < length spec.steps
  pub params : All (λ (p : ParamSpec). IsTrue (is_param_name p.name)) spec.params

-- so is a Task that stands in a source
abbrev pub IsReadSource : TaskSource → Type 0
IsReadSource (Named name) = Unit {0}
IsReadSource (Inlined spec) = IsReadTask spec

-- a matrix has a list or an entry
abbrev pub IsReadMatrix : Matrix → Type 0
IsReadMatrix matrix = (is_empty matrix.params && is_empty matrix.include) ≡ false

-- the name of a pipeline task is a label, and its timeout is at most a year
pub record IsReadPipelineTask (task : PipelineTask) : Type 0 where
  pub label : IsTrue (is_dns_label task.name)
  pub source : IsReadSource task.source
  pub matrix : ForSome task.matrix IsReadMatrix
  pub timeout : task.timeout ≤ longest_duration

-- each task of a pipeline is so
abbrev pub IsReadPipeline : PipelineSpec → Type 0
IsReadPipeline spec = All IsReadPipelineTask (spec.tasks ++ spec.finally)

-- so is a pipeline that stands in a source
abbrev pub IsReadPipelineSource : PipelineSource → Type 0
IsReadPipelineSource (NamedPipeline name) = Unit {0}
IsReadPipelineSource (InlinedPipeline spec) = IsReadPipeline spec

-- what may be asked of a run from the start stops it
abbrev pub is_stop : Asked → Bool
is_stop StoppedRunFinally = true
is_stop CancelledRunFinally = true
is_stop Cancelled = true
is_stop _ = false

-- each timeout that is written is at most a year
abbrev pub IsShort : ℕ → Type 0
IsShort millis = millis ≤ longest_duration

-- those of a run
pub record AreShort (given : Given3) : Type 0 where
  pub pipeline : ForSome given.pipeline IsShort
  pub tasks : ForSome given.tasks IsShort
  pub finally : ForSome given.finally IsShort

-- a run has a name, a pipeline that is so, a stop where it is asked for something, and short timeouts
pub record IsReadRun (run : RunObject) : Type 0 where
  pub name : IsTrue (is_object_name run.name)
  pub source : IsReadPipelineSource run.source
  pub asked : ForSome run.status (λ status. IsTrue (is_stop status))
  pub timeouts : AreShort run.timeouts

-- a standalone TaskRun has a name, a Task that is so, parameters with names, and a short timeout
pub record IsReadTaskRun (run : TaskRunObject) : Type 0 where
  pub name : IsTrue (is_object_name run.name)
  pub source : IsReadSource run.source
  pub params : All (λ (p : Param). IsTrue (is_param_name p.name)) run.params
  pub timeout : run.timeout ≤ longest_duration

-- what holds of an object of each kind
abbrev pub IsReadObject : ItemObject → Type 0
IsReadObject (Task name spec) = IsReadTask spec
IsReadObject (Pipeline name spec) = IsReadPipeline spec
IsReadObject (TaskRun run) = IsReadTaskRun run
IsReadObject (PipelineRun run) = IsReadRun run
IsReadObject object = Unit {0}

-- and of an object at its place
abbrev pub IsRead : Item → Type 0
IsRead item = IsReadObject item.object

-- so is each object of an input in which reading finds no fault
abbrev pub ObjectsAreRead : Type 0
ObjectsAreRead = (kinds : KindSet) (bytes : List ℕ) → reading_fault kinds bytes ≡ None → All IsRead (objects_of kinds bytes)
