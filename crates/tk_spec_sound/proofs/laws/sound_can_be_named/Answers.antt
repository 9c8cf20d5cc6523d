use Rattle.tk_spec_sound.proofs.Named.{sound_has_few, sound_reads}
use Rattle.tk_spec_sound.proofs.laws.sound_can_be_named.Goals as goal

pub returns-clause-readable : goal.returns-clause-readable
returns-clause-readable c = sound_reads

pub returns-clause-few : goal.returns-clause-few
returns-clause-few c = sound_has_few
