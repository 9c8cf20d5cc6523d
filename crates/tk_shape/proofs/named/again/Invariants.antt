use Rattle.std.proofs.Common.{◌≡◌, take}
use Rattle.tk_shape.proofs.named.again.Given as goal

-- the shapes so far
abbrev pub invariant-loop-shape : goal.invariant-loop-shape
invariant-loop-shape l = l.all.items ≡ take l.shape-index l.shapes
