use Rattle.std.proofs.Common.{take}
use Rattle.tk_resolve.specs.Asks.{AsksTheSame}
use Rattle.tk_resolve.specs.Due.{seen}
use Rattle.tk_resolve.proofs.asks.asks_of.Given as goal

-- what the texts so far ask is asked
abbrev pub invariant-loop-standing : goal.invariant-loop-standing
invariant-loop-standing l = AsksTheSame (seen (take l.standing-index l.texts)) l.asks
