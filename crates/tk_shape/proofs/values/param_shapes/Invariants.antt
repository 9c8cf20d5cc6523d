use Rattle.std.proofs.Common.{◌≡◌, ◌++◌, map, drop}
use Rattle.std.specs.Option.{option_map}
use Rattle.tk_types.specs.Lists.{all_some}
use Rattle.tk_shape.specs.ShapeEnv.{shape_env}
use Rattle.tk_shape.specs.Substituted.{shape_in}
use Rattle.tk_shape.proofs.values.param_shapes.Given as goal

-- what is made so far, and what those that are left give, are the whole
abbrev pub invariant-loop-param : goal.invariant-loop-param
invariant-loop-param l = option_map (λ rest. l.made.items ++ rest) (all_some (map (shape_in (shape_env l.lookup)) (drop l.param-index l.params))) ≡ all_some (map (shape_in (shape_env l.lookup)) l.params)
