use Rattle.std.proofs.Common.{◌≡◌, length, ap, ◌∙◌, arith}
use Rattle.tk_verdict.specs.Facts.{task_total}
use Rattle.tk_verdict.proofs.Formed.{readable}
use Rattle.tk_verdict.proofs.RightLabels.{labels_of_is_right}
use Rattle.tk_verdict.proofs.bindings.ready_bindings.Goals as goal

pub bindings_at-requires-clause-readable : goal.bindings_at-requires-clause-readable
bindings_at-requires-clause-readable c = readable c.args.facts.now c.requires.well_formed

pub bindings_at-requires-clause-long : goal.bindings_at-requires-clause-long
bindings_at-requires-clause-long c =
    let facts = c.args.facts.now in
    let total : length c.args.labels.now ≡ task_total facts
    = ap length c.requires.labels ∙ (labels_of_is_right facts c.requires.well_formed.acyclic).count in
    omega (arith, total)
