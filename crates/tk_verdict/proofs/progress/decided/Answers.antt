use Rattle.tk_verdict.proofs.GoesOn.{decided}
use Rattle.tk_verdict.proofs.progress.decided.Goals as goal

pub returns : goal.returns
returns c = decided
