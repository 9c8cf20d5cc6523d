use Rattle.tk_outcome.proofs.Firsts.{none_left_out}
use Rattle.tk_outcome.proofs.laws.none_is_left_out.Goals as goal

pub returns : goal.returns
returns c = none_left_out
