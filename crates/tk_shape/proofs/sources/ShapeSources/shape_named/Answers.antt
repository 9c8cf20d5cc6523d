use Rattle.std.proofs.Common.{Some, None, refl, ◌∙◌}
use Rattle.tk_shape.specs.ShapeEnv.{shape_named}
use Rattle.tk_shape.proofs.Found.{shape_named-three}
use Rattle.tk_shape.proofs.sources.ShapeSources.shape_named.Goals as goal

pub returns-in-Some : goal.returns-in-Some
returns-in-Some c =
    let s = c.args.self.now in
    shape_named-three c.args.name.now s.given s.outer s.fallback (Some c.in-Some.shape.now) (shape_named c.args.name.now s.outer) (shape_named c.args.name.now s.fallback) c.in-Some.ensures refl refl

pub returns-in-Some-shape_named : goal.returns-in-Some-shape_named
returns-in-Some-shape_named c =
    let s = c.args.self.now in
    shape_named-three c.args.name.now s.given s.outer s.fallback None (Some c.in-Some-shape_named.shape.now) (shape_named c.args.name.now s.fallback) c.in_default.ensures c.in-Some-shape_named.ensures refl

pub returns : goal.returns
returns c =
    let s = c.args.self.now in
    c.shape_named-3.ensures
    ∙ shape_named-three c.args.name.now s.given s.outer s.fallback None None (shape_named c.args.name.now s.fallback) c.in_default.ensures c.in_default-shape_named.ensures refl
