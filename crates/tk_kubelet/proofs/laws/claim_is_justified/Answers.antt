use Rattle.tk_kubelet.proofs.Justified.{claim_is_justified}
use Rattle.tk_kubelet.proofs.laws.claim_is_justified.Goals as goal

pub returns : goal.returns
returns c = claim_is_justified
