use Rattle.tk_shape.proofs.References.{reference_same}
use Rattle.tk_shape.proofs.laws.taken_by_shape.Goals as goal

pub returns : goal.returns
returns c env r = reference_same env r
