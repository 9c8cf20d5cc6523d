use Rattle.tk_simulate.proofs.Ends.{runs_end_by_script}
use Rattle.tk_simulate.proofs.laws.runs_end_by_script.Goals as goal

pub returns : goal.returns
returns c = runs_end_by_script
