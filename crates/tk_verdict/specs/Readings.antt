-- What has a reading in each of its texts.
use Rattle.std.specs.Prelude.{All}
use Rattle.std.specs.Option.{ForSome}
use Rattle.tk_types.specs.declared.task.PipelineTask.{PipelineTask}
use Rattle.tk_types.specs.declared.task.TaskBody.{TaskBody}
use Rattle.tk_vars.specs.Reading.{HasReading}
use Rattle.tk_graph.specs.Results.{task_texts}
use Rattle.tk_bind.specs.Readings.{ReadsGuard, ReadsMatrix, ReadsParams, ReadsStep}

pub record ReadsTask (task : PipelineTask) : Type 0 where
  pub params : ReadsParams task.params
  pub matrix : ForSome task.matrix ReadsMatrix
  pub guards : All ReadsGuard task.when
  pub texts : All HasReading (task_texts task)

abbrev pub ReadsBody : TaskBody → Type 0
ReadsBody body = All ReadsStep body.spec.steps
