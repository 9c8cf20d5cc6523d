use Rattle.std.proofs.Common.{◌≡◌, drop}
use Rattle.tk_shape.specs.Substituted.{have_pairs}
use Rattle.tk_shape.proofs.presence.have_pairs.Given as goal

-- the pairs that are left decide
abbrev pub invariant-loop-pair : goal.invariant-loop-pair
invariant-loop-pair g l = have_pairs (g.S.Shapes.env l.shapes) (drop l.pair-index l.pairs) ≡ have_pairs (g.S.Shapes.env l.shapes) l.pairs
