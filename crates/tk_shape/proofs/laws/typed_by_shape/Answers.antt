use Rattle.tk_shape.proofs.References.{type_same}
use Rattle.tk_shape.proofs.laws.typed_by_shape.Goals as goal

pub returns : goal.returns
returns c env r = type_same env r
