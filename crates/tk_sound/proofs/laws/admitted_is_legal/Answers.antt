use Rattle.tk_sound.proofs.Input.{admitted_is_legal}
use Rattle.tk_sound.proofs.laws.admitted_is_legal.Goals as goal

pub returns : goal.returns
returns c = admitted_is_legal c.taken_is_sound.ensures
