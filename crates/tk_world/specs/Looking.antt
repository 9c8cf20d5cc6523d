-- Whether something is open by what a cache shows.
use Rattle.std.specs.Prelude.{ℕ, Bool, false, not, ◌&&◌, ◌||◌, List, Option, Some, None, is_none}
use Rattle.std.specs.List.{list_any}
use Rattle.tk_journal.specs.declared.object.RunState.{RunState}
use Rattle.tk_journal.specs.declared.object.TaskRunState.{TaskRunState}
use Rattle.tk_journal.specs.History.{View}

-- the run is neither closed nor pending
abbrev pub is_open_run : Option RunState → Bool
is_open_run None = false
is_open_run (Some run) = is_none run.closed && not run.pending

-- the TaskRun isn't closed
abbrev pub is_open_task_run : Option TaskRunState → Bool
is_open_task_run None = false
is_open_task_run (Some task_run) = is_none task_run.closed

abbrev pub has_open_run : View → Bool
has_open_run view = list_any (λ (name : List ℕ). is_open_run (view.run name)) view.runs

abbrev pub has_open_task_run : View → Bool
has_open_task_run view = list_any (λ (name : List ℕ). is_open_task_run (view.task_run name)) view.task_runs

abbrev pub is_open_in : View → Bool
is_open_in view = has_open_run view || has_open_task_run view
