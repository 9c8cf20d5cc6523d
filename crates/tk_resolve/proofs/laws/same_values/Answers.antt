use Rattle.tk_resolve.proofs.ResolvedRuns.{same_values}
use Rattle.tk_resolve.proofs.laws.same_values.Goals as goal

pub returns : goal.returns
returns c = λ earlier run pipeline task is. same_values earlier run pipeline task is
