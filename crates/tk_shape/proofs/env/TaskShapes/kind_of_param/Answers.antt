use Rattle.std.proofs.Common.{ℕ, List, ◌++◌, Option, Some, None, refl, ap, ◌∙◌}
use Rattle.std.specs.Prelude.{option_and_then, option_map}
use Rattle.tk_shape.specs.Shape.{Shape, kind_of, selected_shape}
use Rattle.tk_shape.specs.ShapeEnv.{NamedShape, shape_named}
use Rattle.tk_shape.proofs.Found.{named_in, completed-none}
use Rattle.tk_shape.proofs.env.TaskShapes.kind_of_param.Goals as goal

pub returns-in-Some : goal.returns-in-Some
returns-in-Some c =
    let sources = c.self.inside.sources.now in
    c.kind_selected.ensures
    ∙ ap (λ (o : Option Shape). option_map kind_of (option_and_then (selected_shape c.args.selector.now) o))
    (named_in c.args.name.now c.self.inside.bound sources.given sources.outer sources.fallback c.args.self.now.0 (Some c.in-Some.bound) (shape_named c.args.name.now (sources.given ++ sources.outer ++ sources.fallback)) c.in-Some.ensures refl (ap (λ (s : List NamedShape × List (List ℕ)). s.0) c.self.view_is))

pub returns-in-Some-shape_named : goal.returns-in-Some-shape_named
returns-in-Some-shape_named c =
    let sources = c.self.inside.sources.now in
    c.kind_selected-in-Some-shape_named.ensures
    ∙ (ap (λ (s : Shape). option_map kind_of (selected_shape c.args.selector.now s)) (completed-none c.in-Some-shape_named.shape.now)
    ∙ ap (λ (o : Option Shape). option_map kind_of (option_and_then (selected_shape c.args.selector.now) o))
    (named_in c.args.name.now c.self.inside.bound sources.given sources.outer sources.fallback c.args.self.now.0 None (Some c.in-Some-shape_named.shape.now) c.in_default.ensures c.in-Some-shape_named.ensures (ap (λ (s : List NamedShape × List (List ℕ)). s.0) c.self.view_is)))

pub returns-in-None : goal.returns-in-None
returns-in-None c =
    let sources = c.self.inside.sources.now in
    ap (λ (o : Option Shape). option_map kind_of (option_and_then (selected_shape c.args.selector.now) o))
    (named_in c.args.name.now c.self.inside.bound sources.given sources.outer sources.fallback c.args.self.now.0 None None c.in_default.ensures c.in-None.ensures (ap (λ (s : List NamedShape × List (List ℕ)). s.0) c.self.view_is))
