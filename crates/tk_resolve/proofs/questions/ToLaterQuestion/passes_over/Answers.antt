use Rattle.tk_resolve.proofs.PassedOver.{none_to_later}
use Rattle.tk_resolve.proofs.questions.ToLaterQuestion.passes_over.Goals as goal

pub returns : goal.returns
returns c passed due = none_to_later due c.args.text.now (c.names_no_task.ensures.references passed)
