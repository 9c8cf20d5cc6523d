use Rattle.tk_play.proofs.Start.{next_life_is_own}
use Rattle.tk_play.proofs.laws.next_life_is_own.Goals as goal

pub returns : goal.returns
returns c = next_life_is_own
