use Rattle.std.proofs.Common.{take}
use Rattle.tk_resolve.specs.Asks.{Adds}
use Rattle.tk_resolve.proofs.asks.Asks.add_pieces.Given as goal

-- what the pieces so far ask is added
abbrev pub invariant-loop-piece : goal.invariant-loop-piece
invariant-loop-piece l = Adds l.due (take l.piece-index l.pieces) l.initial.self l.self
