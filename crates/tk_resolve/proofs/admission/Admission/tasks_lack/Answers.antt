use Rattle.std.proofs.Common.{◌≡◌, Some, subst, sym}
use Rattle.tk_types.specs.declared.task.PipelineTask.{PipelineTask}
use Rattle.tk_types.specs.declared.task.TaskBody.{TaskBody}
use Rattle.tk_bind.specs.Readings.{ReadsTaskSpec}
use Rattle.tk_resolve.specs.TaskRun.{spec_of}
use Rattle.tk_resolve.proofs.admission.Admission.tasks_lack.Goals as goal

pub task_lacks-requires-clause-source : goal.task_lacks-requires-clause-source
task_lacks-requires-clause-source c =
    subst (λ (t : PipelineTask × TaskBody). spec_of c.args.earlier.now t.0.source ≡ Some t.1.spec) (sym c.declarer-item.is)
    (c.requires.sources c.loop-declarer.declarer-index c.declarer-item.result c.loop-declarer-test.true)

pub task_lacks-requires-clause-body : goal.task_lacks-requires-clause-body
task_lacks-requires-clause-body c =
    subst (λ (t : PipelineTask × TaskBody). ReadsTaskSpec t.1.spec) (sym c.declarer-item.is) (c.requires.bodies c.loop-declarer.declarer-index c.declarer-item.result c.loop-declarer-test.true)
