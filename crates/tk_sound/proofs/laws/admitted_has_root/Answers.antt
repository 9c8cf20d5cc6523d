use Rattle.tk_sound.proofs.Told.{admitted_has_root}
use Rattle.tk_sound.proofs.laws.admitted_has_root.Goals as goal

pub returns : goal.returns
returns c = admitted_has_root
