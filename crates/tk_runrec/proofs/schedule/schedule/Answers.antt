use Rattle.std.proofs.Common.{List, length, ap, arith}
use Rattle.tk_types.specs.declared.run.Facts.{Facts}
use Rattle.tk_types.specs.declared.verdict.Verdict.{Verdict}
use Rattle.tk_journal.specs.Effects.{task_count}
use Rattle.tk_verdict.proofs.Lines.{labels_length}
use Rattle.tk_runrec.proofs.schedule.schedule.Goals as goal

pub first_ready-requires-2-clause-few : goal.first_ready-requires-2-clause-few
first_ready-requires-2-clause-few c =
    let long = labels_length c.args.kept.now in
    let same = ap (λ (labels : List Verdict). length labels) c.requires.labels in
    let spec = ap (λ (facts : Facts). task_count facts.spec) c.requires.facts in
    let few = c.requires.fit.few_tasks in
    omega (arith, long, same, spec, few)
