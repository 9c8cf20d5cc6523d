use Rattle.std.proofs.Common.{All, subst, sym}
use Rattle.tk_types.specs.declared.task.TaskBody.{TaskBody}
use Rattle.tk_bind.specs.Readings.{ReadsStep}
use Rattle.tk_resolve.proofs.admission.Admission.task_lacks.Goals as goal

pub all_fit-requires-clause-body : goal.all_fit-requires-clause-body
all_fit-requires-clause-body c = subst (λ (b : TaskBody). All ReadsStep b.spec.steps) (sym c.body.ensures) c.requires.body
