use Rattle.std.proofs.Common.{sym, ap, subst, ◌∙◌}
use Rattle.std.proofs.lemmas.Result.{IfOk-weaker}
use Rattle.tk_report.specs.Objects.{HaveFewChildren}
use Rattle.tk_report.specs.Report.{report_text}
use Rattle.tk_report.proofs.AtEnd.{few}
use Rattle.tk_report.proofs.end.report.Goals as goal

pub report_of-requires : goal.report_of-requires
report_of-requires c = subst HaveFewChildren (sym c.in_ok-objects.ensures) (few c.args.journal.now.history c.requires)

pub returns : goal.returns
returns c = IfOk-weaker c.report_of.result _ _ (λ text is. is ∙ ap (λ view. report_text view c.args.journal.now.history) c.in_ok-objects.ensures) c.report_of.ensures
