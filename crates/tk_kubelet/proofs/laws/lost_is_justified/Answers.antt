use Rattle.tk_kubelet.proofs.Justified.{lost_is_justified}
use Rattle.tk_kubelet.proofs.laws.lost_is_justified.Goals as goal

pub returns : goal.returns
returns c = lost_is_justified
