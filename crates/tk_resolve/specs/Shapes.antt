-- What texts lack of parameters, and what fits a body, by shapes alone.
use Rattle.std.specs.Prelude.{◌≡◌, ◌⊎◌, ℕ, Bool, false, not, ◌&&◌, List, [], ◌++◌, filter, flat_map, Option, Some, None, Ok, Err, option_map}
use Rattle.std.specs.Option.{option_map_or}
use Rattle.tk_types.specs.Names.{is_in}
use Rattle.tk_types.specs.declared.value.Param.{Param}
use Rattle.tk_types.specs.declared.value.ParamSpec.{ParamSpec}
use Rattle.tk_types.specs.declared.task.Matrix.{Matrix}
use Rattle.tk_types.specs.declared.task.PipelineTask.{PipelineTask}
use Rattle.tk_types.specs.declared.task.TaskBody.{TaskBody}
use Rattle.tk_vars.specs.declared.reference.Reference.{Reference}
use Rattle.tk_vars.specs.Target.{target_of}
use Rattle.tk_bind.specs.declared.env.Env.{Env}
use Rattle.tk_bind.specs.Params.{matrix_in}
use Rattle.tk_matrix.specs.Combinations.{combination}
use Rattle.tk_shape.specs.Bound.{bound_shapes}
use Rattle.tk_shape.specs.Fits.{step_shapes}
use Rattle.tk_shape.specs.Shape.{kind_of}
use Rattle.tk_shape.specs.ShapeEnv.{NamedShape, ShapeEnv, reference_shape, shape_env, shapes_of}
use Rattle.tk_shape.specs.Substituted.{param_shapes}
use Rattle.tk_resolve.specs.declared.due.Due.{Due}
use Rattle.tk_resolve.specs.Due.{DueText, is_due, step_dues}
use Rattle.tk_resolve.specs.Misuse.{any_use, is_judged}
use Rattle.tk_resolve.specs.Settled.{early_params}

-- the reference takes a value that is due
abbrev pub takes_due : ShapeEnv → Due → Reference → Bool
takes_due env due r = option_map_or (is_due due) (option_map kind_of (reference_shape env r)) false

-- it is to a parameter, none of those that are spared, and takes none
abbrev pub lacks : ShapeEnv → List (List ℕ) → Due → Reference → Bool
lacks env spared due r = is_judged spared (target_of r.parts) && not (takes_due env due r)

abbrev pub any_lacks : ShapeEnv → List (List ℕ) → List DueText → Bool
any_lacks env spared texts = any_use (lacks env spared) texts

-- shapes and late parameters fit a body
abbrev pub fit_beside : List (List ℕ) → TaskBody → List NamedShape → Bool
fit_beside late body given =
    elim (bound_shapes (filter (λ (w : ParamSpec). not (is_in late w.name)) body.spec.params) given (shapes_of body.outer) (shapes_of body.fallback)) [
      | Ok bound ↦ not (any_lacks (step_shapes body (bound ++ given)) late (flat_map step_dues body.spec.steps))
      | Err error ↦ false
    ]

-- what a matrix gives at an index, and the shapes of a task's combination there
abbrev pub given_at : Option Matrix → ℕ → List Param
given_at None i = []
given_at (Some matrix) i = combination matrix i

abbrev pub shapes_at : List NamedShape → Option Matrix → ℕ → List NamedShape
shapes_at early matrix i = early ++ shapes_of (given_at matrix i)

-- a reference in a task's early parameters or in its matrix has no value
abbrev pub IsUnknown : Env → PipelineTask → Type 0
IsUnknown env task = (param_shapes (shape_env env) (early_params task) ≡ None) ⊎ (matrix_in env task.matrix ≡ None)
