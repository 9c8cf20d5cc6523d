use Rattle.std.proofs.Common.{All, take, Bor, List, ℕ}
use Rattle.tk_vars.specs.Reading.{HasReading}
use Rattle.tk_spec_sound.proofs.texts.each_reads.Given as goal

-- the texts so far have readings
abbrev pub invariant-loop-text : goal.invariant-loop-text
invariant-loop-text l = All (λ (t : Bor (List ℕ)). HasReading t.now) (take l.text-index l.texts)
