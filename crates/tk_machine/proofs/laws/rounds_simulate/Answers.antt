use Rattle.tk_machine.proofs.Simulated.{rounds_simulate}
use Rattle.tk_machine.proofs.laws.rounds_simulate.Goals as goal

pub returns : goal.returns
returns c = rounds_simulate
