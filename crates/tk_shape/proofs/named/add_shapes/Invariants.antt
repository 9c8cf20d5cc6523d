use Rattle.std.proofs.Common.{◌≡◌, ◌++◌, take}
use Rattle.tk_shape.specs.ShapeEnv.{shapes_of}
use Rattle.tk_shape.proofs.named.add_shapes.Given as goal

-- the shapes so far are added
abbrev pub invariant-loop-param : goal.invariant-loop-param
invariant-loop-param l = l.shapes.items ≡ l.initial.shapes.items ++ shapes_of (take l.param-index l.params)
