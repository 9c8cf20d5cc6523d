use Rattle.tk_machine.proofs.SettledLasts.{settled_lasts}
use Rattle.tk_machine.proofs.laws.settled_lasts.Goals as goal

pub returns : goal.returns
returns c = settled_lasts
