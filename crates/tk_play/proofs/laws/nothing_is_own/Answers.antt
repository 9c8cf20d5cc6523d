use Rattle.tk_play.proofs.Start.{nothing_is_own}
use Rattle.tk_play.proofs.laws.nothing_is_own.Goals as goal

pub returns : goal.returns
returns c = nothing_is_own
