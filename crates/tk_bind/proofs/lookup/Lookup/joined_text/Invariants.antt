use Rattle.std.proofs.Common.{◌≡◌, map, drop, string_bytes}
use Rattle.tk_bind.specs.Substitute.{joined_text, piece_text}
use Rattle.tk_bind.proofs.Gathering.{after, all_joined}
use Rattle.tk_bind.proofs.lookup.Lookup.joined_text.Given as goal

-- the text so far, and the texts of the pieces that are left, are the whole
abbrev pub invariant-loop-piece : goal.invariant-loop-piece
invariant-loop-piece l = after (string_bytes l.text) (all_joined (map (piece_text l.self) (drop l.piece-index l.pieces))) ≡ joined_text l.self l.pieces
