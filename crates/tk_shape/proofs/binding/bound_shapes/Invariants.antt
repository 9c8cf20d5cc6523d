use Rattle.std.proofs.Common.{◌≡◌, take, map, Ok}
use Rattle.tk_types.specs.Lists.{all_ok}
use Rattle.tk_shape.specs.Bound.{bound_shape}
use Rattle.tk_shape.proofs.binding.bound_shapes.Given as goal

-- the wanted parameters so far have these shapes
abbrev pub invariant-loop-spec : goal.invariant-loop-spec
invariant-loop-spec l = all_ok (map (bound_shape l.sources.given l.sources.outer l.sources.fallback) (take l.spec-index l.wanted)) ≡ Ok l.made.items
