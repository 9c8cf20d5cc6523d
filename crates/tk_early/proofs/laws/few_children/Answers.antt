use Rattle.tk_early.proofs.MatrixCounts.{few_children}
use Rattle.tk_early.proofs.laws.few_children.Goals as goal

pub returns : goal.returns
returns c = λ spec task children few is. few_children spec task children few is
