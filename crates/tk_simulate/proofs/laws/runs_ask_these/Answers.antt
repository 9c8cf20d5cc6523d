use Rattle.tk_simulate.proofs.Runs.{runs_ask_these}
use Rattle.tk_simulate.proofs.laws.runs_ask_these.Goals as goal

pub returns : goal.returns
returns c = runs_ask_these
