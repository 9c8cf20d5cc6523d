use Rattle.tk_resolve.proofs.PassedOver.{none_misused}
use Rattle.tk_resolve.proofs.misuse.MisusesQuestion.passes_over.Goals as goal

pub returns : goal.returns
returns c passed due = none_misused c.args.self.now.tasks.now due c.args.text.now (c.names_no_task.ensures.references passed)
