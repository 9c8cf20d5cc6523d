use Rattle.std.proofs.Common.{All, take}
use Rattle.tk_bind.specs.Readings.{ReadsParam}
use Rattle.tk_spec_sound.proofs.texts.params_read.Given as goal

-- the parameters so far have readings
abbrev pub invariant-loop-param : goal.invariant-loop-param
invariant-loop-param l = All ReadsParam (take l.param-index l.params)
