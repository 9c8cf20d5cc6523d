use Rattle.tk_held.proofs.Origins.{legal_is_placed}
use Rattle.tk_held.proofs.laws.legal_is_placed.Goals as goal

pub returns : goal.returns
returns c = legal_is_placed
