use Rattle.tk_kubelet.proofs.Justified.{no_claim_is_left}
use Rattle.tk_kubelet.proofs.laws.no_claim_is_left.Goals as goal

pub returns : goal.returns
returns c = no_claim_is_left
