use Rattle.std.proofs.Common.{◌≡◌, take}
use Rattle.tk_shape.proofs.wanted.wanted_shapes.Given as goal

-- the wanted parameters so far
abbrev pub invariant-loop-spec : goal.invariant-loop-spec
invariant-loop-spec l = l.wanted.items ≡ take l.spec-index l.specs
