-- What is asked of parents, gathered for all tasks.
use Rattle.std.specs.Prelude.{◌≡◌, ℕ, Bool, false, List, slice_get, slice_index_or}
use Rattle.std.specs.Option.{option_map_or}
use Rattle.tk_types.specs.declared.task.PipelineTask.{PipelineTask}
use Rattle.tk_types.specs.declared.run.Facts.{Facts}
use Rattle.tk_verdict.specs.Facts.{all_tasks, children_of, all_ended, is_good}

-- the task at a place has children and all are good
abbrev pub is_good_at : Facts → ℕ → Bool
is_good_at facts place = option_map_or (λ (task : PipelineTask). all_ended (is_good task) (children_of facts place)) (slice_get (all_tasks facts) place) false

-- the list says so of each task
abbrev pub AreGood : Facts → List Bool → Type 0
AreGood facts good = (place : ℕ) → slice_index_or good place false ≡ is_good_at facts place
