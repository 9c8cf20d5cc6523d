-- What of a task is known at admission, and whether its combinations fit (Tekton, Matrix).
use Rattle.std.specs.Prelude.{ℕ, Bool, false, not, ◌||◌, nat_le, if◌then◌else◌, List, [], map, filter, flat_map, ◌++◌, Option, Ok, Err}
use Rattle.std.specs.List.{list_all}
use Rattle.std.specs.Option.{option_map_or}
use Rattle.tk_types.specs.Limits.{most_combinations}
use Rattle.tk_types.specs.declared.value.Param.{Param}
use Rattle.tk_types.specs.declared.value.ParamSpec.{ParamSpec}
use Rattle.tk_types.specs.declared.task.Matrix.{Matrix}
use Rattle.tk_types.specs.declared.task.PipelineTask.{PipelineTask}
use Rattle.tk_types.specs.declared.task.TaskBody.{TaskBody}
use Rattle.tk_vars.specs.declared.reference.Reference.{Reference}
use Rattle.tk_bind.specs.declared.env.Env.{Env}
use Rattle.tk_bind.specs.Bind.{bound_params}
use Rattle.tk_bind.specs.Fits.{step_env}
use Rattle.tk_bind.specs.Params.{params_in, matrix_in}
use Rattle.tk_types.specs.Names.{is_in}
use Rattle.tk_bind.specs.Scope.{is_status}
use Rattle.tk_matrix.specs.Task.{task_combination_count, task_combinations}
use Rattle.tk_early.specs.Settled.{is_settled, is_to_result}
use Rattle.tk_resolve.specs.declared.due.Due.{Due}
use Rattle.tk_resolve.specs.declared.due.Due.TheVariants.{AnyValue}
use Rattle.tk_resolve.specs.Due.{step_dues, value_dues}
use Rattle.tk_resolve.specs.Misuse.{any_use, any_lacks}

-- the reference is to a result or a status, which are known only in the run
abbrev pub is_to_later : Due → Reference → Bool
is_to_later due r = is_to_result r || is_status r.parts

-- a parameter of the task's own whose value is known only in the run
abbrev pub is_late : Param → Bool
is_late p = any_use is_to_later (value_dues AnyValue p.value)

abbrev pub early_params : PipelineTask → List Param
early_params task = filter (λ p. not (is_late p)) task.params

abbrev pub late_names : PipelineTask → List (List ℕ)
late_names task = map (λ (p : Param). p.name) (filter is_late task.params)

-- how many combinations are judged; more than 256 are refused elsewhere, and not judged
abbrev pub judged_count : Option Matrix → ℕ
judged_count matrix = if nat_le (task_combination_count matrix) most_combinations then task_combination_count matrix else 0

-- the combinations of early parameters and a matrix that are judged
abbrev pub judged_combinations : List Param → Option Matrix → List (List Param)
judged_combinations early matrix = if nat_le (task_combination_count matrix) most_combinations then task_combinations early matrix else []

-- the combinations of a settled task that are known, without its late parameters
abbrev pub known_combinations : Env → PipelineTask → List (List Param)
known_combinations env task =
    if is_settled task then option_map_or (λ early. option_map_or (judged_combinations early) (matrix_in env task.matrix) []) (params_in env (early_params task)) []
    else []

-- given parameters and late ones fit a body: each declared parameter that isn't late has a value of its type, and the steps' texts lack none
abbrev pub fits_beside : List (List ℕ) → TaskBody → List Param → Bool
fits_beside late body given =
    elim (bound_params (filter (λ (w : ParamSpec). not (is_in late w.name)) body.spec.params) given body.outer body.fallback) [
      | Ok bound ↦ not (any_lacks (step_env body (bound ++ given)) late (flat_map step_dues body.spec.steps))
      | Err error ↦ false
    ]

-- each known combination fits the body
abbrev pub all_fit : Env → PipelineTask → TaskBody → Bool
all_fit env task body = list_all (fits_beside (late_names task) body) (known_combinations env task)
