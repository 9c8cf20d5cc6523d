use Rattle.std.proofs.Common.{◌≡◌, Option, sym, subst, ◌∙◌}
use Rattle.std.specs.Prelude.{IfOk}
use Rattle.tk_cache.specs.Views.{seen}
use Rattle.tk_journal.specs.declared.act.Act.{Act}
use Rattle.tk_journal.specs.RunRows.{facts_in}
use Rattle.tk_verdict.specs.Labels.{labels_of}
use Rattle.tk_runrec.proofs.Unlabelled.{table_unlabelled}
use Rattle.tk_runrec.proofs.choice.of_open.Goals as goal

pub returns-then-is_unlabelled : goal.returns-then-is_unlabelled
returns-then-is_unlabelled c =
    let view = (seen c.args.cache.now).view in
    let run = c.args.run.now in
    let same = table_unlabelled view c.args.moment c.args.name.now run (labels_of (facts_in view run)) (sym c.is_unlabelled.ensures ∙ c.if-is_unlabelled.true) in
    subst (λ (chosen : Option Act). IfOk c.without_labels.result (λ (act : Option Act). act ≡ chosen)) same c.without_labels.ensures
