use Rattle.tk_play.proofs.Turn.{scripts_gather}
use Rattle.tk_play.proofs.laws.scripts_gather.Goals as goal

pub returns : goal.returns
returns c = scripts_gather
