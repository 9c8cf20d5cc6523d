use Rattle.tk_space.proofs.InOrder.{folders_in_order}
use Rattle.tk_space.proofs.laws.folders_follow_declarations.Goals as goal

pub returns : goal.returns
returns c = folders_in_order
