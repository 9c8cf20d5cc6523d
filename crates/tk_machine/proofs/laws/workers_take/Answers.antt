use Rattle.tk_machine.proofs.Taking.{workers_take}
use Rattle.tk_machine.proofs.laws.workers_take.Goals as goal

pub returns : goal.returns
returns c = workers_take
