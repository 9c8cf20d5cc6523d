use Rattle.tk_machine.proofs.Rounds.{rounds_close}
use Rattle.tk_machine.proofs.laws.fair_rounds_close.Goals as goal

pub returns : goal.returns
returns c = rounds_close
