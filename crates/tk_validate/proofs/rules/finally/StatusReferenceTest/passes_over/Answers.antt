use Rattle.tk_vars.specs.Target.{references_of}
use Rattle.tk_validate.specs.Finally.{names_status}
use Rattle.tk_validate.proofs.NoTask.{any_of_kind, no_status}
use Rattle.tk_validate.proofs.rules.finally.StatusReferenceTest.passes_over.Goals as goal

pub returns : goal.returns
returns c = λ yes. any_of_kind names_status (λ r none. no_status r.parts none) (references_of c.args.text.now) (c.names_no_task.ensures.references yes)
