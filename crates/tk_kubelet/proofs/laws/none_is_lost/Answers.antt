use Rattle.tk_kubelet.proofs.Justified.{none_is_lost}
use Rattle.tk_kubelet.proofs.laws.none_is_lost.Goals as goal

pub returns : goal.returns
returns c = none_is_lost
