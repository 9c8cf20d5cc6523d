use Rattle.std.proofs.Common.{◌≡◌, not, sym, ◌∙◌}
use Rattle.std.proofs.lemmas.List.Elements.{All-filter, All-same}
use Rattle.tk_bind.specs.Readings.{ReadsParam}
use Rattle.tk_resolve.specs.Settled.{early_params, is_late}
use Rattle.tk_early.proofs.MatrixLists.{matrix_has_lists}
use Rattle.tk_resolve.proofs.settled.known_shapes.Goals as goal

pub param_shapes-requires : goal.param_shapes-requires
param_shapes-requires c =
    let task = c.args.task.now in
    All-same ReadsParam c.args.early.now (early_params task) c.requires.early (All-filter (λ p. not (is_late p)) ReadsParam task.params c.requires.task.params)

pub returns-in-Some-2-clause-lists : goal.returns-in-Some-2-clause-lists
returns-in-Some-2-clause-lists c = λ known is matrix has.
    let same : c.in-Some-2.matrix ≡ known.matrix = cc in
    matrix_has_lists c.args.lookup.now c.args.task.now.matrix c.in-Some-2.matrix (sym c.in_ok-matrix.ensures ∙ c.in-Some-2.is) matrix (same ∙ has)
