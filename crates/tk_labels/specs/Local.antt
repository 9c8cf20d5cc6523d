-- What the tasks behind a task see of it, and where it is the same in two states of a run.
use Rattle.std.specs.Prelude.{◌≡◌, ℕ, Bool, true, if◌then◌else◌, List, [], Option, Some, option_map, slice_get, flat_map}
use Rattle.std.specs.List.{list_any}
use Rattle.std.specs.Option.{option_map_or, option_or}
use Rattle.tk_types.specs.declared.task.PipelineTask.{PipelineTask}
use Rattle.tk_types.specs.declared.run.Facts.{Facts}
use Rattle.tk_types.specs.declared.run.Stop.{Stop}
use Rattle.tk_types.specs.declared.verdict.SkipReason.{SkipReason}
use Rattle.tk_types.specs.declared.verdict.SkipReason.TheVariants.{Parent, Stopped}
use Rattle.tk_types.specs.declared.verdict.Verdict.{Verdict}
use Rattle.tk_types.specs.declared.verdict.Verdict.TheVariants.{Skipped, Ready, Waits}
use Rattle.tk_graph.specs.Parents.{parents}
use Rattle.tk_bind.specs.declared.env.Env.{Env}
use Rattle.tk_bind.specs.declared.env.Given.{Given}
use Rattle.tk_verdict.specs.Available.{available_of}
use Rattle.tk_verdict.specs.Facts.{children_of, is_running}
use Rattle.tk_verdict.specs.Rows.{is_good_parent}
use Rattle.tk_verdict.specs.Verdict.{label_at, blocks, is_skipped}
use Rattle.tk_early.specs.Words.{task_words}

-- whether it blocks, whether it is good, whether it is skipped where it is good, and its results: in a state with some labels, and in
-- another with others
pub record ShowsSame (old new : Facts) (xs ys : List Verdict) (place : ℕ) : Type 0 where
  pub blocks : blocks (label_at ys place) ≡ blocks (label_at xs place)
  pub good : is_good_parent new (place, label_at ys place) ≡ is_good_parent old (place, label_at xs place)
  pub skipped : is_good_parent old (place, label_at xs place) ≡ true → is_skipped (label_at ys place) ≡ is_skipped (label_at xs place)
  pub results : (task : PipelineTask) → slice_get old.spec.tasks place ≡ Some task → available_of new (place, task) ≡ available_of old (place, task)

-- a child of the task runs in both
pub record RunsInBoth (old new : Facts) (place : ℕ) : Type 0 where
  pub before : list_any is_running (children_of old place) ≡ true
  pub after : list_any is_running (children_of new place) ≡ true

-- a label once the first stop is recorded
abbrev pub with_stop : Stop → Verdict → Verdict
with_stop stop Ready = Skipped (Stopped stop)
with_stop stop Waits = Skipped (Stopped stop)
with_stop stop label = label

-- the label of a task of `tasks` without children, by whether a parent blocks it, whether all its parents are good, its own row, and the first stop
abbrev pub bare_label : Bool → Bool → Option SkipReason → Option Stop → Verdict
bare_label blocked good own stop =
    if blocked then Skipped Parent else (if good then option_map_or Skipped (option_or own (option_map Stopped stop)) Ready else option_map_or (λ s. Skipped (Stopped s)) stop Waits)

-- the available results of the task at a place of `tasks`
abbrev pub results_at : Facts → ℕ → List Given
results_at facts place = option_map_or (λ (task : PipelineTask). available_of facts (place, task)) (slice_get facts.spec.tasks place) []

-- what the texts of the task at a place see, with the results of its parents alone
abbrev pub parents_env : Facts → ℕ → PipelineTask → Env
parents_env facts place task = record { params = facts.spec.params; results = flat_map (results_at facts) (parents facts.spec.tasks place); words = task_words facts.spec task }
