use Rattle.tk_matrix.proofs.Additions.{combination-behind}
use Rattle.tk_matrix.proofs.laws.lists_kept.Goals as goal

pub returns : goal.returns
returns c = λ matrix i h. combination-behind matrix i h
