-- Parameters fit a body exactly where their shapes do.
use Rattle.std.proofs.Common.{◌≡◌, ℕ, Bool, false, ◌&&◌, List, [], ◌∷◌, ◌++◌, map, length, Result, Ok, Err, refl, sym, ap, ap₂, ◌∙◌}
use Rattle.std.specs.Prelude.{is_ok, is_some, flat_map, option_map}
use Rattle.std.specs.List.{list_all}
use Rattle.std.specs.Result.{result_ok}
use Rattle.std.proofs.lemmas.List.{map-append}
use Rattle.tk_types.specs.declared.value.Param.{Param}
use Rattle.tk_types.specs.declared.task.Step.{Step}
use Rattle.tk_types.specs.declared.task.TaskBody.{TaskBody}
use Rattle.tk_types.specs.Lists.{all_ok}
use Rattle.tk_bind.specs.declared.env.Env.{Env}
use Rattle.tk_bind.specs.declared.refusal.BindError.{BindError}
use Rattle.tk_bind.specs.Bind.{bound_params}
use Rattle.tk_bind.specs.Fits.{step_env, step_elements, step_single_texts, step_has_values, fits}
use Rattle.tk_bind.specs.Substitute.{on_ok, substituted, element}
use Rattle.tk_shape.specs.Bound.{bound_shapes}
use Rattle.tk_shape.specs.Fits as shapes
use Rattle.tk_shape.specs.Fits.{step_keys, step_shapes}
use Rattle.tk_shape.specs.ShapeEnv.{NamedShape, param_shape, shapes_of, shape_env, without_results}
use Rattle.tk_shape.specs.Substituted.{element_count, has_value}
use Rattle.tk_shape.proofs.AllThere.{is_ok-on_ok, is_ok-all}
use Rattle.tk_shape.proofs.Binds.{params_same}
use Rattle.tk_shape.proofs.Texts.{element_same, text_same}

all_same : {X : Type 0} (p q : X → Bool) → ((x : X) → p x ≡ q x) → (xs : List X) → list_all p xs ≡ list_all q xs
all_same p q same [] = refl
all_same p q same (x ∷ xs) = ap₂ (λ a b. a && b) (same x) (all_same p q same xs)

is_some-result_ok : {X Y E : Type 0} (f : X → Y) (r : Result X E) → is_ok r ≡ is_some (option_map f (result_ok r))
is_some-result_ok f (Ok x) = refl
is_some-result_ok f (Err e) = refl

element_has : (env : Env) (text : List ℕ) → is_ok (element env text) ≡ is_some (element_count (shape_env env) text)
element_has env text = is_some-result_ok length (element env text) ∙ ap is_some (element_same env text)

-- the texts of a step have values by the shapes
pub step_same : (env : Env) (step : Step) → step_has_values env step ≡ shapes.step_has_values (shape_env env) step
step_same env step =
    ap₂ (λ a b. a && b)
    (is_ok-on_ok (flat_map (λ (ts : List (List ℕ)). ts)) (all_ok (map (element env) (step_elements step))) ∙ is_ok-all (element env) (λ text. is_some (element_count (shape_env env) text)) (element_has env) (step_elements step))
    (all_same (λ text. is_ok (substituted env text)) (has_value (shape_env env)) (text_same env) (step_single_texts step))

-- what the texts of a body's steps see
pub env_same : (body : TaskBody) (bound given : List Param) → shape_env (step_env body (bound ++ given)) ≡ step_shapes body (shapes_of bound ++ shapes_of given)
env_same body bound given =
    ap (λ (ps : List NamedShape). without_results ps (step_keys body))
    (map-append param_shape ((bound ++ given) ++ body.outer) body.fallback
    ∙ ap (λ ss. ss ++ shapes_of body.fallback) (map-append param_shape (bound ++ given) body.outer ∙ ap (λ ss. ss ++ shapes_of body.outer) (map-append param_shape bound given)))

-- the answer for bound parameters, and for bound shapes
abbrev fits_with : TaskBody → List Param → Result (List Param) BindError → Bool
fits_with body given (Ok bound) = list_all (step_has_values (step_env body (bound ++ given))) body.spec.steps
fits_with body given (Err error) = false

abbrev shapes_fit_with : TaskBody → List NamedShape → Result (List NamedShape) BindError → Bool
shapes_fit_with body given (Ok bound) = list_all (shapes.step_has_values (step_shapes body (bound ++ given))) body.spec.steps
shapes_fit_with body given (Err error) = false

fits_by : (body : TaskBody) (given : List Param) (bound : Result (List Param) BindError) → fits_with body given bound ≡ shapes_fit_with body (shapes_of given) (on_ok shapes_of bound)
fits_by body given (Err error) = refl
fits_by body given (Ok params) =
    all_same (step_has_values (step_env body (params ++ given))) (shapes.step_has_values (shape_env (step_env body (params ++ given)))) (step_same (step_env body (params ++ given))) body.spec.steps
    ∙ ap (λ env. list_all (shapes.step_has_values env) body.spec.steps) (env_same body params given)

pub fits_same : (body : TaskBody) (given : List Param) → fits body given ≡ shapes.fits body (shapes_of given)
fits_same body given =
    fits_as body given (bound_params body.spec.params given body.outer body.fallback)
    ∙ (fits_by body given (bound_params body.spec.params given body.outer body.fallback)
    ∙ (ap (shapes_fit_with body (shapes_of given)) (params_same body.spec.params given body.outer body.fallback)
    ∙ sym (shapes_fit_as body (shapes_of given) (bound_shapes body.spec.params (shapes_of given) (shapes_of body.outer) (shapes_of body.fallback)))))
  where
    fits_as : (body : TaskBody) (given : List Param) (bound : Result (List Param) BindError)
        → elim bound as (λ _. Bool) [ Ok params ↦ list_all (step_has_values (step_env body (params ++ given))) body.spec.steps | Err error ↦ false ] ≡ fits_with body given bound
    fits_as body given (Ok bound) = refl
    fits_as body given (Err error) = refl

    shapes_fit_as : (body : TaskBody) (given : List NamedShape) (bound : Result (List NamedShape) BindError)
        → elim bound as (λ _. Bool) [ Ok params ↦ list_all (shapes.step_has_values (step_shapes body (params ++ given))) body.spec.steps | Err error ↦ false ] ≡ shapes_fit_with body given bound
    shapes_fit_as body given (Ok bound) = refl
    shapes_fit_as body given (Err error) = refl
