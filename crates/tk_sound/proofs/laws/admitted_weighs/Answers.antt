use Rattle.tk_sound.proofs.Told.{admitted_weighs}
use Rattle.tk_sound.proofs.laws.admitted_weighs.Goals as goal

pub returns : goal.returns
returns c = admitted_weighs
