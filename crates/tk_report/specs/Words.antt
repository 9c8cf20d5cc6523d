-- The words of a report: how an object stands, why, and how a child ended (Tekton, PipelineRuns and TaskRuns, Monitoring execution status).
use Rattle.std.specs.Prelude.{ℕ, ◌-◌, if◌then◌else◌, List, [], ◌++◌, length, Option, Some, None, codes, decimal, is_none, option_and_then, slice_get}
use Rattle.std.specs.Option.{option_map_or}
use Rattle.tk_types.specs.declared.run.Outcome.{Outcome}
use Rattle.tk_types.specs.declared.run.Outcome.TheVariants.{Succeeded, Failed, TimedOut, Cancelled, Lost}
use Rattle.tk_types.specs.declared.value.Param.{Param}
use Rattle.tk_types.specs.declared.verdict.Condition.{Condition}
use Rattle.tk_types.specs.Lists.{is_empty}
use Rattle.tk_journal.specs.declared.act.Closing.{Closing}
use Rattle.tk_journal.specs.declared.act.Closing.TheVariants as closings
use Rattle.tk_journal.specs.declared.act.Skip.{Skip}
use Rattle.tk_journal.specs.declared.object.Attempt.{Attempt}
use Rattle.tk_journal.specs.declared.object.Ending.{Ending}
use Rattle.tk_journal.specs.declared.object.Ending.TheVariants.{Of, Unstartable}
use Rattle.tk_journal.specs.declared.object.RunState.{RunState}
use Rattle.tk_journal.specs.declared.object.TaskRunState.{TaskRunState}
use Rattle.tk_report.specs.declared.words.Status.{Status}
use Rattle.tk_report.specs.declared.words.Status.TheVariants.{True, False, Unknown}

abbrev pub status_word : Status → List ℕ
status_word True = codes "True"
status_word False = codes "False"
status_word Unknown = codes "Unknown"

-- runs

abbrev pub condition_status : Condition → Status
condition_status condition = if condition.holds then True else False

-- what closed the run, and nothing while it is open
abbrev pub condition_in : Closing → Option Condition
condition_in (closings.Run condition skipped results) = Some condition
condition_in _ = None

abbrev pub skips_in : Closing → List Skip
skips_in (closings.Run condition skipped results) = skipped
skips_in _ = []

abbrev pub results_in : Closing → List Param
results_in (closings.Run condition skipped results) = results
results_in _ = []

abbrev pub run_condition : RunState → Option Condition
run_condition run = option_and_then condition_in run.closed

abbrev pub run_skips : RunState → List Skip
run_skips run = option_map_or skips_in run.closed []

abbrev pub run_results : RunState → List Param
run_results run = option_map_or results_in run.closed []

abbrev pub run_status : RunState → Status
run_status run = option_map_or condition_status (run_condition run) Unknown

abbrev pub open_run_reason : RunState → List ℕ
open_run_reason run =
    if run.pending then codes "PipelineRunPending" else (if is_empty run.scheduled then codes "Started" else codes "Running")

abbrev pub run_reason : RunState → List ℕ
run_reason run = option_map_or (λ (condition : Condition). condition.reason) (run_condition run) (open_run_reason run)

-- TaskRuns

abbrev pub ending_status : Ending → Status
ending_status (Of (Succeeded results)) = True
ending_status _ = False

abbrev pub outcome_reason : Outcome → List ℕ
outcome_reason (Succeeded results) = codes "Succeeded"
outcome_reason (Failed exit results) = codes "Failed"
outcome_reason TimedOut = codes "TaskRunTimeout"
outcome_reason Cancelled = codes "TaskRunCancelled"
outcome_reason Lost = codes "Lost"

abbrev pub ending_reason : Ending → List ℕ
ending_reason (Of outcome) = outcome_reason outcome
ending_reason (Unstartable reason) = reason

-- while it is open: by its last attempt
abbrev pub attempt_reason : Attempt → List ℕ
attempt_reason attempt = if is_none attempt.outcome then codes "Running" else codes "ToBeRetried"

abbrev pub open_task_run_reason : TaskRunState → List ℕ
open_task_run_reason task_run = option_map_or attempt_reason (slice_get task_run.attempts (length task_run.attempts - 1)) (codes "Started")

abbrev pub task_run_status : TaskRunState → Status
task_run_status task_run = option_map_or ending_status task_run.closed Unknown

abbrev pub task_run_reason : TaskRunState → List ℕ
task_run_reason task_run = option_map_or ending_reason task_run.closed (open_task_run_reason task_run)

abbrev pub ending_results : Ending → List Param
ending_results (Of (Succeeded results)) = results
ending_results _ = []

abbrev pub task_run_results : TaskRunState → List Param
task_run_results task_run = option_map_or ending_results task_run.closed []

-- how a child ended: a failure with its exit where a step gave one
abbrev pub exit_word : Option ℕ → List ℕ
exit_word exit = option_map_or decimal exit (codes "-")

abbrev pub outcome_words : Option Outcome → List ℕ
outcome_words None = codes "Running"
outcome_words (Some (Succeeded results)) = codes "Succeeded"
outcome_words (Some (Failed exit results)) = codes "Failed " ++ exit_word exit
outcome_words (Some TimedOut) = codes "TimedOut"
outcome_words (Some Cancelled) = codes "Cancelled"
outcome_words (Some Lost) = codes "Lost"
