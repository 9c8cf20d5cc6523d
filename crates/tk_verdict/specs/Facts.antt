-- The tasks, children and stops of a run.
use Rattle.std.specs.Prelude.{ℕ, ◌+◌, Bool, true, false, ◌&&◌, ◌||◌, not, ◌==◌, nat_le, List, ◌++◌, length, Option, filter, find, is_none, slice_get}
use Rattle.std.specs.List.{list_all}
use Rattle.std.specs.Option.{option_map_or}
use Rattle.tk_types.specs.declared.task.PipelineTask.{PipelineTask}
use Rattle.tk_types.specs.declared.run.Facts.{Facts}
use Rattle.tk_types.specs.declared.run.Child.{Child}
use Rattle.tk_types.specs.declared.run.Outcome.{Outcome}
use Rattle.tk_types.specs.declared.run.Outcome.TheVariants.{Succeeded, Failed, TimedOut, Cancelled, Lost}
use Rattle.tk_types.specs.declared.run.Stop.{Stop}
use Rattle.tk_types.specs.Behaviour.{level_of}
use Rattle.tk_types.specs.Lists.{is_empty}

-- a task is named by its place: those of `tasks` first, then those of `finally`
abbrev pub all_tasks : Facts → List PipelineTask
all_tasks facts = facts.spec.tasks ++ facts.spec.finally

abbrev pub task_total : Facts → ℕ
task_total facts = length facts.spec.tasks + length facts.spec.finally

-- of some children, those of the task at a place
abbrev pub children_at : List Child → ℕ → List Child
children_at children place = filter (λ (c : Child). c.task == place) children

abbrev pub children_of : Facts → ℕ → List Child
children_of facts place = children_at facts.children place

-- the outcome is success, and one that `onError: continue` ignores
abbrev pub is_success : Outcome → Bool
is_success (Succeeded results) = true
is_success _ = false

abbrev pub is_failure : Outcome → Bool
is_failure (Failed exit results) = true
is_failure TimedOut = true
is_failure Lost = true
is_failure _ = false

abbrev pub is_cancelled : Outcome → Bool
is_cancelled Cancelled = true
is_cancelled _ = false

-- the child has ended so
abbrev pub has_ended : (Outcome → Bool) → Child → Bool
has_ended test child = option_map_or test child.outcome false

-- the child hasn't ended
abbrev pub is_running : Child → Bool
is_running child = is_none child.outcome

-- the outcome is good for a task that ignores failures, or not: success, or a failure that is ignored
abbrev pub is_good_where : Bool → Outcome → Bool
is_good_where ignores outcome = is_success outcome || (ignores && is_failure outcome)

abbrev pub is_good : PipelineTask → Outcome → Bool
is_good task outcome = is_good_where task.ignore_failure outcome

-- there are children, and all of them passed the test
abbrev pub all_ended : (Outcome → Bool) → List Child → Bool
all_ended test children = not (is_empty children) && list_all (has_ended test) children

-- the first stop that is recorded, and the first that reaches `finally`
abbrev pub first_stop : Facts → Option Stop
first_stop facts = slice_get facts.stops 0

abbrev pub first_late_stop : Facts → Option Stop
first_late_stop facts = find (λ stop. nat_le 3 (level_of stop)) facts.stops
