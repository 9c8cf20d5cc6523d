use Rattle.tk_held.proofs.Others.{others_keep}
use Rattle.tk_held.proofs.laws.others_keep.Goals as goal

pub returns : goal.returns
returns c = others_keep
