use Rattle.tk_outcome.proofs.Gathers.{gathered_are_results}
use Rattle.tk_outcome.proofs.laws.gathered_are_results.Goals as goal

pub returns : goal.returns
returns c = gathered_are_results
