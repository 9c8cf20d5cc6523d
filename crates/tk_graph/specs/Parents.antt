-- Which tasks a task waits for.
use Rattle.std.specs.Prelude.{◌≡◌, ℕ, ◌<◌, Bool, List, [], ◌++◌, length, bytes_eq, slice_get, slice_index, Contains}
use Rattle.std.specs.List.{list_any}
use Rattle.std.specs.Option.{option_map_or}
use Rattle.tk_types.specs.declared.task.PipelineTask.{PipelineTask}
use Rattle.tk_types.specs.Lists.{places_where}
use Rattle.tk_graph.specs.Results.{guards_texts, matrix_texts, params_texts, result_tasks}

-- the names of a task's parents, in reading order: it refers to results of them or runs after them
abbrev pub parent_names : PipelineTask → List (List ℕ)
parent_names task = result_tasks (params_texts task.params ++ matrix_texts task.matrix) ++ task.run_after ++ result_tasks (guards_texts task.when)

-- the first task is a parent of the second, which names it
abbrev pub is_parent : PipelineTask → PipelineTask → Bool
is_parent parent task = list_any (λ name. bytes_eq name parent.name) (parent_names task)

-- the places of the parents of the task at a place, ascending
abbrev pub parents : List PipelineTask → ℕ → List ℕ
parents tasks place = option_map_or (λ (task : PipelineTask). places_where (λ parent. is_parent parent task) tasks) (slice_get tasks place) []

-- the first place is an ancestor of the second: a parent, or a parent of an ancestor
pub data IsAncestor (tasks : List PipelineTask) : ℕ → ℕ → Type 0 where
  is_its_parent : {parent task : ℕ} → Contains (parents tasks task) parent → IsAncestor tasks parent task
  is_above : {parent above task : ℕ} → Contains (parents tasks above) parent → IsAncestor tasks above task → IsAncestor tasks parent task

-- there is one rank for each task, and each task's is greater than its parents'
pub record IsRanking (tasks : List PipelineTask) (ranks : List ℕ) : Type 0 where
  pub count : length ranks ≡ length tasks
  pub rising : (parent task : ℕ) → Contains (parents tasks task) parent → slice_index ranks parent < slice_index ranks task

-- the tasks can be ranked
abbrev pub IsAcyclic : List PipelineTask → Type 0
IsAcyclic tasks = (ranks : List ℕ) × IsRanking tasks ranks
