-- The combinations of a task: its own parameters stand in front, and without a matrix there is one combination.
use Rattle.std.specs.Prelude.{ℕ, List, [], ◌∷◌, ◌++◌, map, Option, Some, None}
use Rattle.tk_types.specs.declared.value.Param.{Param}
use Rattle.tk_types.specs.declared.task.Matrix.{Matrix}
use Rattle.tk_matrix.specs.Combinations.{combination_count, combination, combinations}

-- how many combinations a task has
abbrev pub task_combination_count : Option Matrix → ℕ
task_combination_count None = 1
task_combination_count (Some matrix) = combination_count matrix

-- its combination i
abbrev pub task_combination : List Param → Option Matrix → ℕ → List Param
task_combination own None i = own
task_combination own (Some matrix) i = own ++ combination matrix i

-- all of them, in order
abbrev pub task_combinations : List Param → Option Matrix → List (List Param)
task_combinations own None = own ∷ []
task_combinations own (Some matrix) = map (λ c. own ++ c) (combinations matrix)
