use Rattle.tk_simulate.proofs.Runs.{runs_admit_nothing}
use Rattle.tk_simulate.proofs.laws.runs_admit_nothing.Goals as goal

pub returns : goal.returns
returns c = runs_admit_nothing
