use Rattle.tk_shape.proofs.Fitting.{env_same}
use Rattle.tk_shape.proofs.laws.seen_by_shape.Goals as goal

pub returns : goal.returns
returns c body bound given = env_same body bound given
