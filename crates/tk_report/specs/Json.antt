-- The JSON of a report; the keys of an object stand in the order of their bytes.
use Rattle.std.specs.Prelude.{ℕ, if◌then◌else◌, List, [], ◌∷◌, length, map, Option, Some, Bool, codes, flat_map}
use Rattle.std.specs.List.{enumerate_from, range_with_len}
use Rattle.std.specs.Option.{option_map_or}
use Rattle.serde_json.specs.Data.{Data, null, number, unsigned, string, array, object, member, no_members}
use Rattle.serde_json.specs.View.{items_of}
use Rattle.serde_json.specs.Written.{compact_text}
use Rattle.tk_types.specs.declared.run.Facts.{Facts}
use Rattle.tk_types.specs.declared.scenario.Kind.{Kind}
use Rattle.tk_types.specs.declared.scenario.Kind.TheVariants as kinds
use Rattle.tk_types.specs.declared.task.PipelineTask.{PipelineTask}
use Rattle.tk_types.specs.declared.task.When.{When}
use Rattle.tk_types.specs.declared.value.Param.{Param}
use Rattle.tk_types.specs.declared.verdict.SkipReason.{SkipReason}
use Rattle.tk_types.specs.Behaviour.{tasks_of}
use Rattle.tk_time.specs.Moment.{moment_text}
use Rattle.tk_results.specs.Written.{data_of}
use Rattle.tk_verdict.specs.Texts.{skip_text}
use Rattle.tk_journal.specs.declared.act.Skip.{Skip}
use Rattle.tk_journal.specs.declared.entry.Entry.{Entry}
use Rattle.tk_journal.specs.declared.object.RunState.{RunState}
use Rattle.tk_journal.specs.declared.object.TaskRunState.{TaskRunState}
use Rattle.tk_journal.specs.Effects.{bindings_for}
use Rattle.tk_journal.specs.History.{View, outcome_of, facts_of}
use Rattle.tk_journal.specs.Names.{name_of_child}
use Rattle.tk_report.specs.declared.words.Status.{Status}
use Rattle.tk_report.specs.Guards.{guards_shown}
use Rattle.tk_report.specs.Objects.{admitted}
use Rattle.tk_report.specs.Report.{skip_at}
use Rattle.tk_report.specs.Words.{status_word, run_status, run_reason, run_skips, run_results, task_run_status, task_run_reason, task_run_results, outcome_words}

abbrev pub list_data : List Data → Data
list_data ds = array (items_of ds)

-- a moment's text, or null
abbrev pub moment_data : Option ℕ → Data
moment_data moment = option_map_or (λ (m : ℕ). string (moment_text m)) moment null

abbrev pub child_data : List ℕ → List ℕ → ℕ → TaskRunState → Data
child_data task name index task_run =
    object
    (member (codes "attempts") (number (unsigned (length task_run.attempts)))
    (member (codes "index") (number (unsigned index))
    (member (codes "name") (string name)
    (member (codes "outcome") (string (outcome_words (outcome_of (Some task_run))))
    (member (codes "task") (string task) no_members)))))

abbrev pub operator_word : Bool → List ℕ
operator_word is_member = if is_member then codes "in" else codes "notin"

abbrev pub guard_data : When → Data
guard_data guard =
    object
    (member (codes "input") (string guard.input)
    (member (codes "operator") (string (operator_word guard.is_member))
    (member (codes "values") (list_data (map string guard.values)) no_members)))

abbrev pub skipped_data : List ℕ → SkipReason → List When → Data
skipped_data task reason guards =
    object
    (member (codes "name") (string task)
    (member (codes "reason") (string (skip_text reason))
    (member (codes "whenExpressions") (list_data (map guard_data guards)) no_members)))

abbrev pub result_data : Param → Data
result_data result = object (member (codes "name") (string result.name) (member (codes "value") (data_of result.value) no_members))

abbrev pub object_data : List ℕ → List ℕ → Status → List ℕ → Data → List Data → List Data → List Param → Data
object_data kind name status reason start children skipped results =
    object
    (member (codes "childReferences") (list_data children)
    (member (codes "kind") (string kind)
    (member (codes "name") (string name)
    (member (codes "reason") (string reason)
    (member (codes "results") (list_data (map result_data results))
    (member (codes "skippedTasks") (list_data skipped)
    (member (codes "startTime") start
    (member (codes "status") (string (status_word status)) no_members))))))))

-- a run's tasks

abbrev pub child_data_at : View → RunState → PipelineTask → ℕ → List Data
child_data_at view run task index =
    let name = name_of_child run.spec index task in
    option_map_or (λ (task_run : TaskRunState). child_data task.name name index task_run ∷ []) (view.task_run name) []

abbrev pub children_data : View → RunState → ℕ × PipelineTask → List Data
children_data view run (place, task) = flat_map (child_data_at view run task) (range_with_len 0 (length (bindings_for place run.scheduled)))

abbrev pub skipped_data_at : Facts → List Skip → ℕ × PipelineTask → List Data
skipped_data_at facts skips (place, task) =
    option_map_or (λ (reason : SkipReason). skipped_data task.name reason (guards_shown facts place task) ∷ []) (skip_at place skips) []

-- the skipped tasks of a run
abbrev pub all_skipped : View → RunState → List Data
all_skipped view run = flat_map (skipped_data_at (facts_of view.task_run run) (run_skips run)) (enumerate_from 0 (tasks_of run.spec))

-- objects

abbrev pub run_data : View → List ℕ → RunState → Data
run_data view name run =
    object_data (codes "PipelineRun") name (run_status run) (run_reason run) (moment_data run.start)
    (flat_map (children_data view run) (enumerate_from 0 (tasks_of run.spec))) (all_skipped view run) (run_results run)

abbrev pub task_run_data : List ℕ → TaskRunState → Data
task_run_data name task_run =
    object_data (codes "TaskRun") name (task_run_status task_run) (task_run_reason task_run) null [] [] (task_run_results task_run)

abbrev pub data_at : View → Kind × List ℕ → List Data
data_at view (kinds.Runs, name) = option_map_or (λ (run : RunState). run_data view name run ∷ []) (view.run name) []
data_at view (kinds.TaskRuns, name) = option_map_or (λ (task_run : TaskRunState). task_run_data name task_run ∷ []) (view.task_run name) []
data_at view (kinds.Pods, name) = []

-- of the objects that a history admits, as they are seen
abbrev pub report_data : View → List Entry → Data
report_data view history = list_data (flat_map (data_at view) (admitted history))

abbrev pub report_json_text : View → List Entry → List ℕ
report_json_text view history = compact_text (report_data view history)
