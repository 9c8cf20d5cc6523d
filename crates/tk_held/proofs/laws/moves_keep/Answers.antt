use Rattle.tk_held.proofs.Moving.{moves_keep}
use Rattle.tk_held.proofs.laws.moves_keep.Goals as goal

pub returns : goal.returns
returns c = moves_keep
