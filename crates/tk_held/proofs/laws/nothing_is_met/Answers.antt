use Rattle.tk_held.proofs.Nothing.{nothing_is_met}
use Rattle.tk_held.proofs.laws.nothing_is_met.Goals as goal

pub returns : goal.returns
returns c = nothing_is_met
