-- Why a task is skipped: the first row that holds (Tekton, Pipelines, Guard Task execution using when expressions; Adding Finally to the
-- Pipeline).
use Rattle.std.specs.Prelude.{ℕ, Bool, false, ◌&&◌, ◌||◌, if◌then◌else◌, List, [], ◌∷◌, Option, is_none, bytes_eq, slice_get}
use Rattle.std.specs.List.{list_any, list_all}
use Rattle.std.specs.Option.{option_map_or}
use Rattle.tk_types.specs.declared.task.PipelineTask.{PipelineTask}
use Rattle.tk_types.specs.declared.run.Facts.{Facts}
use Rattle.tk_types.specs.declared.verdict.SkipReason.{SkipReason}
use Rattle.tk_types.specs.declared.verdict.SkipReason.TheVariants.{Parent, Missing, Broken, When, EmptyMatrix}
use Rattle.tk_types.specs.declared.verdict.Verdict.{Verdict}
use Rattle.tk_types.specs.Lists.{first_row}
use Rattle.tk_graph.specs.Results.{task_results}
use Rattle.tk_bind.specs.declared.env.Env.{Env}
use Rattle.tk_bind.specs.Substitute.{result_named}
use Rattle.tk_verdict.specs.Facts.{all_tasks, children_of, all_ended, is_good}
use Rattle.tk_verdict.specs.Verdict.{blocks, is_skipped, is_skipped_by_when}
use Rattle.tk_verdict.specs.Bindings.{is_broken, is_refused, has_no_combination}

-- A parent is here its place with its label.

-- the parent has children and all are good, or is skipped by its guard
abbrev pub is_good_parent : Facts → ℕ × Verdict → Bool
is_good_parent facts (place, label) =
    option_map_or (λ (task : PipelineTask). all_ended (is_good task) (children_of facts place)) (slice_get (all_tasks facts) place) false || is_skipped_by_when label

-- the task refers to a result of the task at this place
abbrev pub refers_to : Facts → PipelineTask → ℕ → Bool
refers_to facts task place =
    option_map_or (λ (parent : PipelineTask). list_any (λ (r : List ℕ × List ℕ). bytes_eq r.0 parent.name) (task_results task)) (slice_get (all_tasks facts) place) false

-- the rows that are common to all tasks
abbrev pub own_rows : Facts → Env → ℕ → PipelineTask → List (Bool × SkipReason)
own_rows facts env place task = (is_broken facts env place task, Broken) ∷ (is_refused env task, When) ∷ (has_no_combination env task, EmptyMatrix) ∷ []

-- a parent whose result the task refers to is skipped
abbrev pub lacks_result : Facts → List (ℕ × Verdict) → PipelineTask → Bool
lacks_result facts parents task = list_any (λ (p : ℕ × Verdict). is_skipped p.1 && refers_to facts task p.0) parents

-- the first row of 1 to 5 of a task of `tasks`; rows 2 to 5 hold only where all parents are good
abbrev pub task_row : Facts → List (ℕ × Verdict) → Env → ℕ → PipelineTask → Option SkipReason
task_row facts parents env place task =
    let own = (lacks_result facts parents task, Missing) ∷ own_rows facts env place task in
    first_row ((list_any (λ (p : ℕ × Verdict). blocks p.1) parents, Parent) ∷ (if list_all (is_good_parent facts) parents then own else []))

-- a result that the task refers to isn't available
abbrev pub lacks_any_result : Env → PipelineTask → Bool
lacks_any_result env task = list_any (λ (r : List ℕ × List ℕ). is_none (result_named r.0 r.1 env.results)) (task_results task)

-- the first row of 2 to 5 of a task of `finally`
abbrev pub finally_row : Facts → Env → ℕ → PipelineTask → Option SkipReason
finally_row facts env place task = first_row ((lacks_any_result env task, Missing) ∷ own_rows facts env place task)
