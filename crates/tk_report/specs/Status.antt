-- The status with which a command ends that shows a report.
use Rattle.std.specs.Prelude.{ℕ, Bool, true, false, if◌then◌else◌, List, [], ◌∷◌, flat_map}
use Rattle.std.specs.List.{list_any}
use Rattle.std.specs.Option.{option_map_or}
use Rattle.tk_types.specs.declared.scenario.Kind.{Kind}
use Rattle.tk_types.specs.declared.scenario.Kind.TheVariants as kinds
use Rattle.tk_journal.specs.declared.entry.Entry.{Entry}
use Rattle.tk_journal.specs.declared.object.RunState.{RunState}
use Rattle.tk_journal.specs.declared.object.TaskRunState.{TaskRunState}
use Rattle.tk_journal.specs.History.{View}
use Rattle.tk_report.specs.declared.words.Status.{Status}
use Rattle.tk_report.specs.declared.words.Status.TheVariants.{False, Unknown}
use Rattle.tk_report.specs.Objects.{admitted}
use Rattle.tk_report.specs.Words.{run_status, task_run_status}

abbrev pub is_unknown : Status → Bool
is_unknown Unknown = true
is_unknown _ = false

abbrev pub is_false : Status → Bool
is_false False = true
is_false _ = false

-- 7 where an object is open, else 1 where one ended False, else 0
abbrev pub exit_of : List Status → ℕ
exit_of statuses = if list_any is_unknown statuses then 7 else (if list_any is_false statuses then 1 else 0)

abbrev pub status_at : View → Kind × List ℕ → List Status
status_at view (kinds.Runs, name) = option_map_or (λ (run : RunState). run_status run ∷ []) (view.run name) []
status_at view (kinds.TaskRuns, name) = option_map_or (λ (task_run : TaskRunState). task_run_status task_run ∷ []) (view.task_run name) []
status_at view (kinds.Pods, name) = []

-- by the objects that a history admits, as they are seen
abbrev pub exit_status : View → List Entry → ℕ
exit_status view history = exit_of (flat_map (status_at view) (admitted history))
