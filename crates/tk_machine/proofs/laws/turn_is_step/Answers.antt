use Rattle.tk_machine.proofs.Soundness.{worker_is_step}
use Rattle.tk_machine.proofs.laws.turn_is_step.Goals as goal

pub returns : goal.returns
returns c = worker_is_step
