-- The combinations of a task with their parameters.
use Rattle.std.specs.Prelude.{ℕ, Bool, false, not, ◌||◌, if◌then◌else◌, nat_le, List, map, Option, Some, None, is_none, option_map, option_and_then, slice_get}
use Rattle.std.specs.List.{list_all}
use Rattle.std.specs.Option.{option_map_or}
use Rattle.std.specs.Result.{result_ok}
use Rattle.tk_types.specs.Limits.{most_combinations}
use Rattle.tk_types.specs.declared.value.Param.{Param}
use Rattle.tk_types.specs.declared.task.Matrix.{Matrix}
use Rattle.tk_types.specs.declared.task.PipelineTask.{PipelineTask}
use Rattle.tk_types.specs.declared.task.When.{When}
use Rattle.tk_types.specs.declared.run.Facts.{Facts}
use Rattle.tk_types.specs.Lists.{all_some}
use Rattle.tk_bind.specs.declared.env.Env.{Env}
use Rattle.tk_bind.specs.Fits.{fits}
use Rattle.tk_bind.specs.Params.{matrix_in, params_in}
use Rattle.tk_bind.specs.Substitute.{substituted, substituted_list}
use Rattle.tk_guard.specs.When.{all_hold}
use Rattle.tk_matrix.specs.Combinations.{has_empty_list}
use Rattle.tk_matrix.specs.Task.{task_combination_count, task_combinations}

-- An expression and the combinations are there where each reference in them has a value.

-- an expression, and all of a task
abbrev pub guard_in : Env → When → Option When
guard_in env guard =
    let values = result_ok (substituted_list env guard.values) in
    option_and_then (λ input. option_map (λ values. record guard { input = input; values = values }) values) (result_ok (substituted env guard.input))

abbrev pub guards_in : Env → PipelineTask → Option (List When)
guards_in env task = all_some (map (guard_in env) task.when)

-- the combinations of a task, where they are at most 256
abbrev pub few_combinations : List Param → Option Matrix → Option (List (List Param))
few_combinations own matrix = if nat_le (task_combination_count matrix) most_combinations then Some (task_combinations own matrix) else None

abbrev pub combinations_in : Env → PipelineTask → Option (List (List Param))
combinations_in env task = option_and_then (λ own. option_and_then (few_combinations own) (matrix_in env task.matrix)) (params_in env task.params)

-- the parameters fit the body at this place
abbrev pub fits_at : Facts → ℕ → List Param → Bool
fits_at facts place params = option_map_or (λ body. fits body params) (slice_get facts.spec.bodies place) false

-- a reference has no value, there are too many combinations, or one doesn't fit
abbrev pub is_broken : Facts → Env → ℕ → PipelineTask → Bool
is_broken facts env place task = is_none (guards_in env task) || not (option_map_or (list_all (fits_at facts place)) (combinations_in env task) false)

-- a `when` expression is false
abbrev pub is_refused : Env → PipelineTask → Bool
is_refused env task = option_map_or (λ guards. not (all_hold guards)) (guards_in env task) false

-- a list of the matrix is empty
abbrev pub has_no_combination : Env → PipelineTask → Bool
has_no_combination env task = option_map_or (λ (matrix : Option Matrix). option_map_or (λ (m : Matrix). has_empty_list m.params) matrix false) (matrix_in env task.matrix) false
