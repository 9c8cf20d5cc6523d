use Rattle.std.proofs.Common.{All, take}
use Rattle.tk_bind.specs.Readings.{ReadsStep}
use Rattle.tk_spec_sound.proofs.texts.steps_read.Given as goal

-- the steps so far have readings
abbrev pub invariant-loop-step : goal.invariant-loop-step
invariant-loop-step l = All ReadsStep (take l.step-index l.steps)
