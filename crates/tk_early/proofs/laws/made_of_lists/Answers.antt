use Rattle.tk_early.proofs.MatrixLists.{matrix_has_lists}
use Rattle.tk_early.proofs.laws.made_of_lists.Goals as goal

pub returns : goal.returns
returns c = matrix_has_lists
