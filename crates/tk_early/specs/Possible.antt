-- How many children a task of a resolved run may have (Tekton, Matrix, Concurrency Control).
use Rattle.std.specs.Prelude.{ℕ, ◌-◌, ◌^◌, min, if◌then◌else◌, Option, None, option_map, unwrap_or}
use Rattle.tk_types.specs.declared.task.Matrix.{Matrix}
use Rattle.tk_types.specs.declared.task.PipelineTask.{PipelineTask}
use Rattle.tk_types.specs.declared.run.RunSpec.{RunSpec}
use Rattle.tk_types.specs.Limits.{most_combinations}
use Rattle.tk_bind.specs.declared.env.Env.{Env}
use Rattle.tk_bind.specs.Params.{matrix_in}
use Rattle.tk_matrix.specs.Task.{task_combination_count}
use Rattle.tk_early.specs.Settled.{is_settled}
use Rattle.tk_early.specs.Words.{first_env}

-- the task's matrix with its references substituted, where it is settled and each of them has a value
abbrev pub settled_matrix : Env → PipelineTask → Option (Option Matrix)
settled_matrix env task = if is_settled task then matrix_in env task.matrix else None

-- how many combinations the task has, where that is known at admission; without a matrix there is one
abbrev pub settled_count : RunSpec → PipelineTask → Option ℕ
settled_count spec task = option_map task_combination_count (settled_matrix (first_env spec task) task)

-- how many children a task with a matrix may have: as many as are allowed, where that is known only in the run
abbrev pub possible_children : RunSpec → PipelineTask → Option ℕ
possible_children spec task = option_map (λ (matrix : Matrix). unwrap_or (settled_count spec task) most_combinations) task.matrix

-- a count of more than 64 bits is told as the greatest number
abbrev pub told_count : ℕ → ℕ
told_count count = min count (2 ^ 64 - 1)
