use Rattle.std.proofs.Common.{sym, ◌∙◌}
use Rattle.tk_early.proofs.MatrixLists.{matrix_has_lists}
use Rattle.tk_verdict.proofs.combined.combinations_in.Goals as goal

pub combinations_of-requires-clause-lists : goal.combinations_of-requires-clause-lists
combinations_of-requires-clause-lists c = matrix_has_lists c.args.lookup.now c.args.task.now.matrix c.in-Some.matrix (sym c.in_ok-matrix.ensures ∙ c.in-Some.is)
