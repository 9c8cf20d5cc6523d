use Rattle.std.proofs.Common.{List, ap, ap₂, ◌∙◌}
use Rattle.tk_types.specs.declared.value.Param.{Param}
use Rattle.tk_journal.specs.declared.act.Skip.{Skip}
use Rattle.tk_journal.specs.declared.act.Closing.TheVariants as closings
use Rattle.tk_runrec.specs.Labels.{skips_in}
use Rattle.tk_runrec.proofs.Labelled.{skips_same}
use Rattle.tk_runrec.proofs.close.closing.Goals as goal

pub returns : goal.returns
returns c =
    let skipped = c.from_vec.ensures ∙ c.in_ok-skips.ensures ∙ ap (skips_in 0) c.requires.labels ∙ skips_same c.args.kept.now in
    ap₂ (λ (skips : List Skip) (results : List Param). closings.Run c.args.condition skips results) skipped c.in_ok-results.ensures
