-- Whether a task's body can run with parameters of these shapes.
use Rattle.std.specs.Prelude.{ℕ, Bool, false, ◌&&◌, List, ◌++◌, Ok, Err, is_some}
use Rattle.std.specs.List.{list_all}
use Rattle.tk_types.specs.declared.task.Step.{Step}
use Rattle.tk_types.specs.declared.task.TaskBody.{TaskBody}
use Rattle.tk_bind.specs.Fits.{context_words, result_words, space_words, step_elements, step_single_texts}
use Rattle.tk_shape.specs.Bound.{bound_shapes}
use Rattle.tk_shape.specs.Shape.{keys_of}
use Rattle.tk_shape.specs.ShapeEnv.{NamedShape, ShapeEnv, shapes_of, without_results}
use Rattle.tk_shape.specs.Substituted.{element_count, has_value}

-- the keys of the words that the texts of a body's steps see
abbrev pub step_keys : TaskBody → List (List ℕ)
step_keys body = keys_of (context_words ++ result_words body.spec.results ++ space_words body.spec.spaces)

-- the shapes that they see, with the bound and the given parameters
abbrev pub step_shapes : TaskBody → List NamedShape → ShapeEnv
step_shapes body params = without_results (params ++ shapes_of body.outer ++ shapes_of body.fallback) (step_keys body)

-- each text of a step has a value
abbrev pub step_has_values : ShapeEnv → Step → Bool
step_has_values env step = list_all (λ text. is_some (element_count env text)) (step_elements step) && list_all (has_value env) (step_single_texts step)

-- each declared parameter has a shape of its type, and each text of the steps has a value
abbrev pub fits : TaskBody → List NamedShape → Bool
fits body given =
    elim (bound_shapes body.spec.params given (shapes_of body.outer) (shapes_of body.fallback)) [
      | Ok bound ↦ list_all (step_has_values (step_shapes body (bound ++ given))) body.spec.steps
      | Err error ↦ false
    ]
