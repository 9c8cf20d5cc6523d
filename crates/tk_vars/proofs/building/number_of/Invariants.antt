use Rattle.std.proofs.Common.{◌≡◌, take}
use Rattle.tk_vars.specs.Reading.{number_of}
use Rattle.tk_vars.proofs.building.number_of.Given as goal

abbrev pub invariant-loop-digit : goal.invariant-loop-digit
invariant-loop-digit l = l.number ≡ number_of (take l.digit-index l.digits)
