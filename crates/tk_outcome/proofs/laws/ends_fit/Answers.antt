use Rattle.tk_outcome.proofs.Ended.{ends_fit}
use Rattle.tk_outcome.proofs.laws.ends_fit.Goals as goal

pub returns : goal.returns
returns c = ends_fit
