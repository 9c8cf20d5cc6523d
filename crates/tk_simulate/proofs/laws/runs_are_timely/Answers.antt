use Rattle.tk_simulate.proofs.Runs.{runs_are_timely}
use Rattle.tk_simulate.proofs.laws.runs_are_timely.Goals as goal

pub returns : goal.returns
returns c = runs_are_timely
