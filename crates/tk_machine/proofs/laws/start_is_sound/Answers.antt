use Rattle.tk_machine.proofs.Start.{start_is_sound}
use Rattle.tk_machine.proofs.laws.start_is_sound.Goals as goal

pub returns : goal.returns
returns c = start_is_sound
