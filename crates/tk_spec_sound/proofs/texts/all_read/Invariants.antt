use Rattle.std.proofs.Common.{All, take}
use Rattle.tk_vars.specs.Reading.{HasReading}
use Rattle.tk_spec_sound.proofs.texts.all_read.Given as goal

-- the texts so far have readings
abbrev pub invariant-loop-text : goal.invariant-loop-text
invariant-loop-text l = All HasReading (take l.text-index l.texts)
