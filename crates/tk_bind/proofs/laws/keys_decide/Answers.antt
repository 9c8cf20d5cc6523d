use Rattle.tk_bind.proofs.AlikeSteps.{step_alike}
use Rattle.tk_bind.proofs.laws.keys_decide.Goals as goal

pub returns : goal.returns
returns c a b step alike = step_alike a b alike step
