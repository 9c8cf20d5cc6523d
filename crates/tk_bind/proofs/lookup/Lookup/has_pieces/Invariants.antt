use Rattle.std.proofs.Common.{◌≡◌, drop, is_ok}
use Rattle.tk_bind.specs.Substitute.{joined_text}
use Rattle.tk_bind.proofs.lookup.Lookup.has_pieces.Given as goal

-- the pieces that are left decide
abbrev pub invariant-loop-piece : goal.invariant-loop-piece
invariant-loop-piece l = is_ok (joined_text l.self (drop l.piece-index l.pieces)) ≡ is_ok (joined_text l.self l.pieces)
