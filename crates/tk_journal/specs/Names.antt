-- The names of a run's children, and how many a task may have (Tekton, PipelineRuns, Monitoring execution status).
use Rattle.std.specs.Prelude.{ℕ, List, [], ◌∷◌, flat_map, Option, option_map, unwrap_or, slice_get}
use Rattle.std.specs.Option.{option_map_or}
use Rattle.tk_types.specs.declared.task.Matrix.{Matrix}
use Rattle.tk_types.specs.declared.task.PipelineTask.{PipelineTask}
use Rattle.tk_types.specs.declared.run.RunSpec.{RunSpec}
use Rattle.tk_types.specs.Behaviour.{tasks_of}
use Rattle.tk_early.specs.Possible.{possible_children}
use Rattle.tk_names.specs.Children.{child_name, child_names}
use Rattle.tk_journal.specs.declared.act.Admission.{Admission}
use Rattle.tk_journal.specs.declared.act.Admission.TheVariants.{Run, Task}

-- the task at a place: those of `tasks` stand first
abbrev pub task_at : RunSpec → ℕ → Option PipelineTask
task_at spec task = slice_get (tasks_of spec) task

-- a child's name has its index where the task has a matrix
abbrev pub index_in_name : PipelineTask → ℕ → Option ℕ
index_in_name task index = option_map (λ (matrix : Matrix). index) task.matrix

abbrev pub name_of_child : RunSpec → ℕ → PipelineTask → List ℕ
name_of_child spec index task = child_name spec.name task.name (index_in_name task index)

-- of the task's child with this index
abbrev pub child_name_of : RunSpec → ℕ → ℕ → List ℕ
child_name_of spec task index = option_map_or (name_of_child spec index) (task_at spec task) []

-- how many children the task may get, as admission counts them
abbrev pub possible_of : RunSpec → PipelineTask → ℕ
possible_of spec task = unwrap_or (possible_children spec task) 1

abbrev pub possible_count : RunSpec → ℕ → ℕ
possible_count spec task = option_map_or (possible_of spec) (task_at spec task) 0

-- the names that the TaskRuns of an admitted object may have: those of a run's children, and a standalone TaskRun's own
abbrev pub task_names : RunSpec → PipelineTask → List (List ℕ)
task_names spec task = child_names spec.name task.name (possible_children spec task)

abbrev pub task_run_names : Admission → List (List ℕ)
task_run_names (Run spec) = flat_map (task_names spec) (tasks_of spec)
task_run_names (Task spec) = spec.name ∷ []
