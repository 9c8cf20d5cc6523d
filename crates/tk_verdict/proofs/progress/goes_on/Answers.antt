use Rattle.tk_verdict.proofs.GoesOn.{goes_on}
use Rattle.tk_verdict.proofs.progress.goes_on.Goals as goal

pub returns : goal.returns
returns c = goes_on
