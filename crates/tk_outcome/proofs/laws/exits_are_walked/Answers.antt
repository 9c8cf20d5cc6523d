use Rattle.tk_outcome.proofs.Walks.{are_exits}
use Rattle.tk_outcome.proofs.laws.exits_are_walked.Goals as goal

pub returns : goal.returns
returns c = are_exits
