use Rattle.std.proofs.Common.{◌≡◌, take}
use Rattle.tk_shape.specs.ShapeEnv.{shapes_of}
use Rattle.tk_resolve.proofs.alike.have_same_shapes.Given as goal

-- the shapes so far are the same
abbrev pub invariant-loop-place : goal.invariant-loop-place
invariant-loop-place l = shapes_of (take l.place l.first) ≡ shapes_of (take l.place l.second)
