use Rattle.std.proofs.Common.{All, take}
use Rattle.tk_types.specs.declared.value.Pair.{Pair}
use Rattle.tk_vars.specs.Reading.{HasReading}
use Rattle.tk_spec_sound.proofs.texts.pairs_read.Given as goal

-- the values of the pairs so far have readings
abbrev pub invariant-loop-pair : goal.invariant-loop-pair
invariant-loop-pair l = All (λ (p : Pair). HasReading p.value) (take l.pair-index l.pairs)
