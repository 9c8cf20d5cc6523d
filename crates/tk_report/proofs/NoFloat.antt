-- The JSON of a report has whole numbers alone, so that each byte of it is known.
use Rattle.std.proofs.Common.{◌≡◌, ℕ, List, [], ◌∷◌, ◌++◌, false, map, Option, Some, None, refl}
use Rattle.std.specs.Prelude.{codes, flat_map, length}
use Rattle.std.specs.List.{AllByRecursion}
use Rattle.std.specs.Option.{option_map_or}
use Rattle.serde_json.specs.Data.{Data, null, string}
use Rattle.serde_json.specs.View.{items_of}
use Rattle.serde_json.specs.Written.{has_float, items_have_float}
use Rattle.tk_types.specs.declared.run.Facts.{Facts}
use Rattle.tk_types.specs.declared.scenario.Kind.{Kind}
use Rattle.tk_types.specs.declared.scenario.Kind.TheVariants as kinds
use Rattle.tk_types.specs.declared.task.PipelineTask.{PipelineTask}
use Rattle.tk_types.specs.declared.task.When.{When}
use Rattle.tk_types.specs.declared.value.Param.{Param}
use Rattle.tk_types.specs.declared.verdict.SkipReason.{SkipReason}
use Rattle.tk_results.proofs.JsonText.{no_float}
use Rattle.tk_journal.specs.declared.act.Skip.{Skip}
use Rattle.tk_journal.specs.declared.entry.Entry.{Entry}
use Rattle.tk_journal.specs.declared.object.RunState.{RunState}
use Rattle.tk_journal.specs.declared.object.TaskRunState.{TaskRunState}
use Rattle.tk_journal.specs.History.{View, facts_of}
use Rattle.tk_report.specs.declared.words.Status.{Status}
use Rattle.tk_report.specs.Guards.{guards_shown}
use Rattle.tk_report.specs.Json.{moment_data, child_data, guard_data, skipped_data, result_data, object_data, child_data_at, children_data, skipped_data_at, run_data, task_run_data, data_at, report_data}
use Rattle.tk_report.specs.Objects.{admitted}
use Rattle.tk_report.specs.Report.{skip_at}
use Rattle.tk_report.specs.Words.{run_status, run_reason, run_results, run_skips, task_run_status, task_run_reason, task_run_results}
use Rattle.tk_types.specs.Behaviour.{tasks_of}
use Rattle.std.specs.List.{enumerate_from, range_with_len}
use Rattle.tk_journal.specs.Effects.{bindings_for}
use Rattle.tk_journal.specs.Names.{name_of_child}

abbrev IsWhole : Data → Type 0
IsWhole d = has_float d ≡ false

abbrev AreWhole : List Data → Type 0
AreWhole ds = AllByRecursion IsWhole ds

whole_items : (ds : List Data) → AreWhole ds → items_have_float (items_of ds) ≡ false
whole_items [] all = refl
whole_items (d ∷ ds) all = rw all.0 (whole_items ds all.1)

whole_append : (ds es : List Data) → AreWhole ds → AreWhole es → AreWhole (ds ++ es)
whole_append [] es first second = second
whole_append (d ∷ ds) es first second = (first.0, whole_append ds es first.1 second)

whole_flat : {X : Type 0} (f : X → List Data) → ((x : X) → AreWhole (f x)) → (xs : List X) → AreWhole (flat_map f xs)
whole_flat f each [] = tt
whole_flat f each (x ∷ xs) = whole_append (f x) (flat_map f xs) (each x) (whole_flat f each xs)

whole_map : {X : Type 0} (f : X → Data) → ((x : X) → IsWhole (f x)) → (xs : List X) → AreWhole (map f xs)
whole_map f each [] = tt
whole_map f each (x ∷ xs) = (each x, whole_map f each xs)

whole_if_there : {X : Type 0} (f : X → List Data) → ((x : X) → AreWhole (f x)) → (o : Option X) → AreWhole (option_map_or f o [])
whole_if_there f each None = tt
whole_if_there f each (Some x) = each x

whole_moment : (moment : Option ℕ) → IsWhole (moment_data moment)
whole_moment None = refl
whole_moment (Some m) = refl

whole_guard : (guard : When) → IsWhole (guard_data guard)
whole_guard guard = rw (whole_items (map string guard.values) (whole_map string (λ text. refl) guard.values)) refl

whole_skipped : (task : List ℕ) (reason : SkipReason) (guards : List When) → IsWhole (skipped_data task reason guards)
whole_skipped task reason guards = rw (whole_items (map guard_data guards) (whole_map guard_data whole_guard guards)) refl

whole_result : (result : Param) → IsWhole (result_data result)
whole_result result = rw (no_float result.value) refl

whole_object : (kind name : List ℕ) (status : Status) (reason : List ℕ) (start : Data) (children skipped : List Data) (results : List Param)
    → IsWhole start → AreWhole children → AreWhole skipped → IsWhole (object_data kind name status reason start children skipped results)
whole_object kind name status reason start children skipped results is-start are-children are-skipped =
    rw (whole_items children are-children)
    (rw (whole_items (map result_data results) (whole_map result_data whole_result results))
    (rw (whole_items skipped are-skipped)
    (rw is-start refl)))

whole_child_at : (view : View) (run : RunState) (task : PipelineTask) (index : ℕ) → AreWhole (child_data_at view run task index)
whole_child_at view run task index =
    let name = name_of_child run.spec index task in
    whole_if_there (λ (task_run : TaskRunState). child_data task.name name index task_run ∷ []) (λ task_run. (refl, tt)) (view.task_run name)

whole_children : (view : View) (run : RunState) (placed : ℕ × PipelineTask) → AreWhole (children_data view run placed)
whole_children view run (place, task) = whole_flat (child_data_at view run task) (whole_child_at view run task) (range_with_len 0 (length (bindings_for place run.scheduled)))

whole_skipped_at : (facts : Facts) (skips : List Skip) (placed : ℕ × PipelineTask) → AreWhole (skipped_data_at facts skips placed)
whole_skipped_at facts skips (place, task) =
    whole_if_there (λ (reason : SkipReason). skipped_data task.name reason (guards_shown facts place task) ∷ []) (λ reason. (whole_skipped task.name reason (guards_shown facts place task), tt)) (skip_at place skips)

whole_run : (view : View) (name : List ℕ) (run : RunState) → IsWhole (run_data view name run)
whole_run view name run =
    let tasks = enumerate_from 0 (tasks_of run.spec) in
    let facts = facts_of view.task_run run in
    whole_object (codes "PipelineRun") name (run_status run) (run_reason run) (moment_data run.start) (flat_map (children_data view run) tasks) (flat_map (skipped_data_at facts (run_skips run)) tasks) (run_results run)
    (whole_moment run.start) (whole_flat (children_data view run) (whole_children view run) tasks) (whole_flat (skipped_data_at facts (run_skips run)) (whole_skipped_at facts (run_skips run)) tasks)

whole_task_run : (name : List ℕ) (task_run : TaskRunState) → IsWhole (task_run_data name task_run)
whole_task_run name task_run = whole_object (codes "TaskRun") name (task_run_status task_run) (task_run_reason task_run) null [] [] (task_run_results task_run) refl tt tt

whole_data_at : (view : View) (object : Kind × List ℕ) → AreWhole (data_at view object)
whole_data_at view (kinds.Runs, name) = whole_if_there (λ (run : RunState). run_data view name run ∷ []) (λ run. (whole_run view name run, tt)) (view.run name)
whole_data_at view (kinds.TaskRuns, name) = whole_if_there (λ (task_run : TaskRunState). task_run_data name task_run ∷ []) (λ task_run. (whole_task_run name task_run, tt)) (view.task_run name)
whole_data_at view (kinds.Pods, name) = tt

pub no_float-report : (view : View) (history : List Entry) → has_float (report_data view history) ≡ false
no_float-report view history = whole_items (flat_map (data_at view) (admitted history)) (whole_flat (data_at view) (whole_data_at view) (admitted history))
