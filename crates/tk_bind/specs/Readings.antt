-- What has a reading in each of its texts.
use Rattle.std.specs.Prelude.{List, All}
use Rattle.std.specs.Option.{ForSome}
use Rattle.tk_types.specs.declared.value.Pair.{Pair}
use Rattle.tk_types.specs.declared.value.Param.{Param}
use Rattle.tk_types.specs.declared.value.Value.{Value}
use Rattle.tk_types.specs.declared.task.Matrix.{Matrix}
use Rattle.tk_types.specs.declared.task.PipelineTask.{PipelineTask}
use Rattle.tk_types.specs.declared.task.Step.{Step}
use Rattle.tk_types.specs.declared.task.TaskSource.{TaskSource}
use Rattle.tk_types.specs.declared.task.TaskSource.TheVariants.{Named, Inlined}
use Rattle.tk_types.specs.declared.task.TaskSpec.{TaskSpec}
use Rattle.tk_types.specs.declared.task.When.{When}
use Rattle.tk_types.specs.declared.object.ItemObject.{ItemObject}
use Rattle.tk_types.specs.declared.object.ItemObject.TheVariants.{Task, Pipeline, TaskRun, PipelineRun}
use Rattle.tk_types.specs.declared.object.PipelineSource.{PipelineSource}
use Rattle.tk_types.specs.declared.object.PipelineSource.TheVariants.{Named as NamedPipeline, Inlined as InlinedPipeline}
use Rattle.tk_types.specs.declared.object.PipelineSpec.{PipelineSpec}
use Rattle.tk_types.specs.Value.{value_texts}
use Rattle.tk_vars.specs.Reading.{HasReading}

abbrev pub ReadsValue : Value → Type 0
ReadsValue value = All HasReading (value_texts value)

abbrev pub ReadsParam : Param → Type 0
ReadsParam param = ReadsValue param.value

abbrev pub ReadsParams : List Param → Type 0
ReadsParams params = All ReadsParam params

pub record ReadsMatrix (matrix : Matrix) : Type 0 where
  pub lists : ReadsParams matrix.params
  pub entries : All ReadsParams matrix.include

pub record ReadsStep (step : Step) : Type 0 where
  pub command : All HasReading step.command
  pub args : All HasReading step.args
  pub script : ForSome step.script HasReading
  pub env : All (λ (p : Pair). HasReading p.value) step.env
  pub dir : ForSome step.dir HasReading

pub record ReadsGuard (guard : When) : Type 0 where
  pub input : HasReading guard.input
  pub values : All HasReading guard.values

abbrev pub ReadsTaskSpec : TaskSpec → Type 0
ReadsTaskSpec spec = All ReadsStep spec.steps

abbrev pub ReadsTaskSource : TaskSource → Type 0
ReadsTaskSource (Named name) = Unit {0}
ReadsTaskSource (Inlined spec) = ReadsTaskSpec spec

pub record ReadsPipelineTask (task : PipelineTask) : Type 0 where
  pub source : ReadsTaskSource task.source
  pub params : ReadsParams task.params
  pub matrix : ForSome task.matrix ReadsMatrix
  pub guards : All ReadsGuard task.when

pub record ReadsPipelineSpec (spec : PipelineSpec) : Type 0 where
  pub tasks : All ReadsPipelineTask spec.tasks
  pub finally : All ReadsPipelineTask spec.finally
  pub results : ReadsParams spec.results

abbrev pub ReadsPipelineSource : PipelineSource → Type 0
ReadsPipelineSource (NamedPipeline name) = Unit {0}
ReadsPipelineSource (InlinedPipeline spec) = ReadsPipelineSpec spec

-- what an object holds itself
abbrev pub ReadsObject : ItemObject → Type 0
ReadsObject (Task name spec) = ReadsTaskSpec spec
ReadsObject (Pipeline name spec) = ReadsPipelineSpec spec
ReadsObject (TaskRun run) = ReadsTaskSource run.source
ReadsObject (PipelineRun run) = ReadsPipelineSource run.source
ReadsObject object = Unit {0}
