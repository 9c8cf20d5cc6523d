use Rattle.tk_matrix.proofs.Distinct.{combination-one}
use Rattle.tk_matrix.proofs.laws.product_differs.Goals as goal

pub returns : goal.returns
returns c = λ matrix i j e distinct li lj same. combination-one matrix i j e distinct li lj same
