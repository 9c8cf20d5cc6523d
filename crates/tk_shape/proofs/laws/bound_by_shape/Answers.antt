use Rattle.tk_shape.proofs.Binds.{params_same}
use Rattle.tk_shape.proofs.laws.bound_by_shape.Goals as goal

pub returns : goal.returns
returns c wanted given outer fallback = params_same wanted given outer fallback
