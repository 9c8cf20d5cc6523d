use Rattle.std.proofs.Common.{sym, ◌∙◌}
use Rattle.tk_matrix.proofs.Counting.{stands_alone-lists}
use Rattle.tk_matrix.proofs.choice.stands_alone.Goals as goal

pub returns-else-is_empty : goal.returns-else-is_empty
returns-else-is_empty c =
    stands_alone-lists c.args.params.now c.args.entry.now c.is_possible.result c.requires (sym c.is_empty.ensures ∙ c.if-is_empty.false) c.is_possible.ensures
