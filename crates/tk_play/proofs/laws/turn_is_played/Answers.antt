use Rattle.tk_play.proofs.Turn.{turn_is_played}
use Rattle.tk_play.proofs.laws.turn_is_played.Goals as goal

pub returns : goal.returns
returns c = turn_is_played
