use Rattle.std.proofs.Common.{[], ◌∷◌, ◌++◌, map, sym, ap, ◌∙◌, append_assoc}
use Rattle.tk_types.specs.Lists.{all_some}
use Rattle.tk_shape.specs.ShapeEnv.{shape_env}
use Rattle.tk_shape.specs.Substituted.{shape_in}
use Rattle.tk_shape.proofs.Counting.{turn}
use Rattle.tk_shape.proofs.values.param_shapes.Goals as goal

pub loop-param-preserved : goal.loop-param-preserved
loop-param-preserved c =
    let shape = shape_in (shape_env c.args.lookup.now) in
    turn shape (λ rest. c.loop-param.made.items ++ rest) (λ rest. c.push.new.self.items ++ rest) c.args.params.now c.loop-param.param-index c.param-item.result c.in-Some.shape
    (all_some (map shape c.args.params.now))
    c.loop-param-test.true
    c.param-item.is
    (sym c.in_ok-shape.ensures ∙ c.in-Some.is)
    (λ rest. ap (λ made. made ++ rest) c.in_ok-push-in-Some.ensures.items ∙ append_assoc c.loop-param.made.items (c.in-Some.shape ∷ []) rest)
    c.loop-param.invariant
