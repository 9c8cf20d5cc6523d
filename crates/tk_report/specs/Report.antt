-- The text of a report.
use Rattle.std.specs.Prelude.{ℕ, ◌||◌, nat_eq, Bool, true, false, if◌then◌else◌, List, [], ◌∷◌, ◌++◌, length, Option, Some, None, codes, decimal, flat_map}
use Rattle.std.specs.List.{enumerate_from, range_with_len}
use Rattle.std.specs.Option.{option_map_or}
use Rattle.tk_types.specs.declared.run.Start.{Start}
use Rattle.tk_types.specs.declared.run.Start.TheVariants.{Ready, Unstartable}
use Rattle.tk_types.specs.declared.scenario.Kind.{Kind}
use Rattle.tk_types.specs.declared.scenario.Kind.TheVariants as kinds
use Rattle.tk_types.specs.declared.task.PipelineTask.{PipelineTask}
use Rattle.tk_types.specs.declared.value.Param.{Param}
use Rattle.tk_types.specs.declared.verdict.SkipReason.{SkipReason}
use Rattle.tk_types.specs.Behaviour.{tasks_of}
use Rattle.tk_results.specs.Written.{json_text}
use Rattle.tk_verdict.specs.Texts.{skip_text}
use Rattle.tk_journal.specs.declared.act.Skip.{Skip}
use Rattle.tk_journal.specs.declared.entry.Entry.{Entry}
use Rattle.tk_journal.specs.declared.object.RunState.{RunState}
use Rattle.tk_journal.specs.declared.object.TaskRunState.{TaskRunState}
use Rattle.tk_journal.specs.Effects.{bindings_for}
use Rattle.tk_journal.specs.History.{View, outcome_of}
use Rattle.tk_journal.specs.Names.{name_of_child}
use Rattle.tk_report.specs.declared.words.Status.{Status}
use Rattle.tk_report.specs.Objects.{admitted}
use Rattle.tk_report.specs.Words.{status_word, run_status, run_reason, run_skips, run_results, task_run_status, task_run_reason, task_run_results, outcome_words}

-- an object with its status and the reason
abbrev pub standing : List ℕ → List ℕ → Status → List ℕ → List ℕ
standing kind name status reason = kind ++ codes " " ++ name ++ codes " " ++ status_word status ++ codes " " ++ reason

abbrev pub attempts_words : ℕ → List ℕ
attempts_words count = codes " attempts " ++ decimal count

-- lines

abbrev pub run_line : List ℕ → Status → List ℕ → List ℕ
run_line name status reason = standing (codes "pipelinerun") name status reason ++ codes "\n"

abbrev pub task_run_line : List ℕ → TaskRunState → List ℕ
task_run_line name task_run =
    standing (codes "taskrun") name (task_run_status task_run) (task_run_reason task_run) ++ attempts_words (length task_run.attempts) ++ codes "\n"

abbrev pub child_words : List ℕ → List ℕ → ℕ → List ℕ
child_words task name index = codes "  taskrun " ++ name ++ codes " " ++ task ++ codes " " ++ decimal index ++ codes " "

abbrev pub child_line : List ℕ → List ℕ → ℕ → TaskRunState → List ℕ
child_line task name index task_run =
    child_words task name index ++ outcome_words (outcome_of (Some task_run)) ++ attempts_words (length task_run.attempts) ++ codes "\n"

abbrev pub skipped_line : List ℕ → SkipReason → List ℕ
skipped_line task reason = codes "  skipped " ++ task ++ codes " " ++ skip_text reason ++ codes "\n"

abbrev pub result_line : Param → List ℕ
result_line result = codes "  result " ++ result.name ++ codes " " ++ json_text result.value ++ codes "\n"

-- a run's tasks

-- why the task at a place was skipped
abbrev pub skip_at : ℕ → List Skip → Option SkipReason
skip_at place [] = None
skip_at place (skip ∷ skips) = if nat_eq skip.task place then Some skip.reason else skip_at place skips

abbrev pub child_at : View → RunState → PipelineTask → ℕ → List ℕ
child_at view run task index =
    let name = name_of_child run.spec index task in
    option_map_or (child_line task.name name index) (view.task_run name) []

-- a line for each child that is there, by index
abbrev pub child_lines : View → RunState → ℕ → PipelineTask → List ℕ
child_lines view run place task = flat_map (child_at view run task) (range_with_len 0 (length (bindings_for place run.scheduled)))

-- the line of a skipped task, or those of its children
abbrev pub task_lines : View → RunState → ℕ × PipelineTask → List ℕ
task_lines view run (place, task) = option_map_or (skipped_line task.name) (skip_at place (run_skips run)) (child_lines view run place task)

-- objects

abbrev pub cannot_start : Start → Bool
cannot_start Ready = false
cannot_start (Unstartable reason) = true

-- a run of which there is no more to say: it is pending, or can't start
abbrev pub has_one_line : RunState → Bool
has_one_line run = run.pending || cannot_start run.spec.start

abbrev pub run_details : View → RunState → List ℕ
run_details view run = flat_map (task_lines view run) (enumerate_from 0 (tasks_of run.spec)) ++ flat_map result_line (run_results run)

abbrev pub run_text : View → List ℕ → RunState → List ℕ
run_text view name run = run_line name (run_status run) (run_reason run) ++ (if has_one_line run then [] else run_details view run)

abbrev pub task_run_text : List ℕ → TaskRunState → List ℕ
task_run_text name task_run = task_run_line name task_run ++ flat_map result_line (task_run_results task_run)

abbrev pub object_text : View → Kind × List ℕ → List ℕ
object_text view (kinds.Runs, name) = option_map_or (run_text view name) (view.run name) []
object_text view (kinds.TaskRuns, name) = option_map_or (task_run_text name) (view.task_run name) []
object_text view (kinds.Pods, name) = []

-- of the objects that a history admits, as they are seen
abbrev pub report_text : View → List Entry → List ℕ
report_text view history = flat_map (object_text view) (admitted history)
