use Rattle.std.proofs.Common.{ap, ◌∙◌}
use Rattle.std.proofs.lemmas.Result.{IfOk-weaker}
use Rattle.tk_report.specs.Status.{exit_status}
use Rattle.tk_report.proofs.end.status.Goals as goal

pub returns : goal.returns
returns c = IfOk-weaker c.status_of.result _ _ (λ status is. is ∙ ap (λ view. exit_status view c.args.journal.now.history) c.in_ok-objects.ensures) c.status_of.ensures
