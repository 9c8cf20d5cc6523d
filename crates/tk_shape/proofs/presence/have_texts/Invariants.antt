use Rattle.std.proofs.Common.{◌≡◌, drop}
use Rattle.tk_shape.specs.Substituted.{have_texts}
use Rattle.tk_shape.proofs.presence.have_texts.Given as goal

-- the pieces that are left decide
abbrev pub invariant-loop-piece : goal.invariant-loop-piece
invariant-loop-piece g l = have_texts (g.S.Shapes.env l.shapes) (drop l.piece-index l.pieces) ≡ have_texts (g.S.Shapes.env l.shapes) l.pieces
