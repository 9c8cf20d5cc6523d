use Rattle.tk_sound.proofs.Input.{admitted_is_sound}
use Rattle.tk_sound.proofs.laws.admitted_is_sound.Goals as goal

pub returns : goal.returns
returns c = admitted_is_sound c.taken_is_sound.ensures
