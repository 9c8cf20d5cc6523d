use Rattle.std.proofs.Common.{◌≡◌, sym, subst}
use Rattle.std.specs.Prelude.{IfOk}
use Rattle.tk_journal.specs.History.{View}
use Rattle.tk_report.specs.Json.{report_json_text}
use Rattle.tk_report.specs.Objects.{ArePrintable}
use Rattle.tk_report.proofs.AtEnd.{printable}
use Rattle.tk_report.proofs.end.report_json.Goals as goal

pub report_json_of-requires : goal.report_json_of-requires
report_json_of-requires c = subst ArePrintable (sym c.in_ok-objects.ensures) (printable c.args.journal.now.history c.requires.legal c.requires.moments)

pub returns : goal.returns
returns c =
    let history = c.args.journal.now.history in
    subst (λ (view : View). IfOk c.report_json_of.result (λ text. text ≡ report_json_text view history)) c.in_ok-objects.ensures c.report_json_of.ensures
