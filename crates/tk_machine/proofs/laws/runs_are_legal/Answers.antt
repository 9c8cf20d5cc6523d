use Rattle.tk_machine.proofs.Soundness.{sound_run}
use Rattle.tk_machine.proofs.laws.runs_are_legal.Goals as goal

pub returns : goal.returns
returns c = sound_run
