use Rattle.std.proofs.Common.{◌≡◌, ◌++◌, not, List, [], Ok, ap, sym, ◌∙◌, flat_map}
use Rattle.tk_types.specs.declared.value.ParamSpec.{ParamSpec}
use Rattle.tk_shape.specs.Bound.{bound_shapes}
use Rattle.tk_shape.specs.Fits.{step_keys}
use Rattle.tk_shape.specs.ShapeEnv.{NamedShape, shapes_of, without_results}
use Rattle.tk_resolve.specs.Due.{step_dues}
use Rattle.tk_resolve.specs.Shapes.{any_lacks}
use Rattle.tk_resolve.proofs.ByShapes.{fit_as, fit_with, lacks_alone}
use Rattle.tk_resolve.proofs.beside.Beside.fit_bound.Goals as goal

pub returns-in-Ok : goal.returns-in-Ok
returns-in-Ok c =
    let late = c.args.self.now.0 in
    let body = c.args.self.now.1 in
    let sources = c.args.sources.now in
    let given = sources.given in
    let bound = c.in-Ok.bound.items in
    let texts = flat_map step_dues body.spec.steps in
    let found : bound_shapes _ given (shapes_of body.outer) (shapes_of body.fallback) ≡ Ok bound =
    ap (λ (wanted : List ParamSpec). bound_shapes wanted given (shapes_of body.outer) (shapes_of body.fallback)) (sym c.requires.wanted)
    ∙ (ap (λ outer. bound_shapes c.args.wanted.now given outer (shapes_of body.fallback)) (sym c.requires.outer)
    ∙ (ap (λ fallback. bound_shapes c.args.wanted.now given sources.outer fallback) (sym c.requires.fallback) ∙ c.in-Ok.ensures.bound)) in
    ap not
    (c.in_ok-lacks-in-Ok.ensures
    ∙ (ap (λ (bs : List NamedShape). any_lacks (without_results (bs ++ given ++ sources.outer ++ sources.fallback) []) late texts) c.as_slice.ensures.value
    ∙ (lacks_alone (bound ++ given ++ sources.outer ++ sources.fallback) [] (step_keys body) late texts
    ∙ (ap (λ outer. any_lacks (without_results (bound ++ given ++ outer ++ sources.fallback) (step_keys body)) late texts) c.requires.outer
    ∙ ap (λ fallback. any_lacks (without_results (bound ++ given ++ shapes_of body.outer ++ fallback) (step_keys body)) late texts) c.requires.fallback))))
    ∙ (sym (ap (fit_with late body given) found) ∙ sym (fit_as late body given (bound_shapes _ given (shapes_of body.outer) (shapes_of body.fallback))))
