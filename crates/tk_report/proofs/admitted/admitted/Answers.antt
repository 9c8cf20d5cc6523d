use Rattle.std.proofs.Common.{arith, ◌∙◌, ◌++◌, ap, sym, map}
use Rattle.tk_report.specs.Admitted.{named}
use Rattle.tk_report.specs.Objects.{admitted_by}
use Rattle.tk_report.proofs.Order.{admitted_none, admitted_next, admitted_all}
use Rattle.tk_report.proofs.admitted.admitted.Goals as goal

pub loop-place-init : goal.loop-place-init
loop-place-init c = ap (map named) c.new-found.ensures.items ∙ sym (admitted_none c.args.journal.now.history)

pub loop-place-preserved : goal.loop-place-preserved
loop-place-preserved c =
    c.in_ok-push_admitted.ensures
    ∙ ap (λ found. found ++ admitted_by c.entry.result.now.act) c.loop-place.invariant
    ∙ admitted_next c.args.journal.now.history c.loop-place.place c.entry.result.now c.entry.ensures

pub returns : goal.returns
returns c = c.loop-place.invariant ∙ admitted_all c.args.journal.now.history c.loop-place.place (omega (arith, c.loop-place-test.false, c.len-place-end.ensures.value))
