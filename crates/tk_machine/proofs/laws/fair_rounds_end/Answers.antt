use Rattle.tk_machine.proofs.Rounds.{rounds_end}
use Rattle.tk_machine.proofs.laws.fair_rounds_end.Goals as goal

pub returns : goal.returns
returns c = rounds_end
