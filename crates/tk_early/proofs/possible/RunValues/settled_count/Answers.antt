use Rattle.std.proofs.Common.{sym, ◌∙◌}
use Rattle.tk_early.proofs.MatrixCounts.{settled_has_lists}
use Rattle.tk_early.proofs.possible.RunValues.settled_count.Goals as goal

pub task_count-requires : goal.task_count-requires
task_count-requires c = settled_has_lists c.lookup-lookup.result c.args.task.now c.in-Some.matrix (sym c.in_ok-matrix.ensures ∙ c.in-Some.is)
