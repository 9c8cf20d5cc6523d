-- The condition and the results of a run (Tekton, PipelineRuns, Monitoring execution status; Pipelines, Emitting Results from a Pipeline).
use Rattle.std.specs.Prelude.{ℕ, Bool, true, false, ◌&&◌, ◌||◌, not, if◌then◌else◌, List, [], ◌∷◌, Option, Some, None, filter_map, unwrap_or, codes}
use Rattle.std.specs.List.{list_any, list_all, enumerate_from}
use Rattle.tk_types.specs.declared.value.Param.{Param}
use Rattle.tk_types.specs.declared.task.PipelineTask.{PipelineTask}
use Rattle.tk_types.specs.declared.run.Facts.{Facts}
use Rattle.tk_types.specs.declared.run.Start.TheVariants.{Ready as Startable, Unstartable}
use Rattle.tk_types.specs.declared.run.Stop.{Stop}
use Rattle.tk_types.specs.declared.run.Stop.TheVariants.{StoppedRunFinally, CancelledRunFinally, TasksTimeout, FinallyTimeout, Cancelled, PipelineTimeout}
use Rattle.tk_types.specs.declared.verdict.Verdict.{Verdict}
use Rattle.tk_types.specs.declared.verdict.Condition.{Condition}
use Rattle.tk_types.specs.Lists.{first_row}
use Rattle.tk_verdict.specs.Facts.{all_tasks, children_of, has_ended, is_failure, is_cancelled}
use Rattle.tk_verdict.specs.Verdict.{is_done, is_skipped, is_broken_label}
use Rattle.tk_verdict.specs.Words.{results_env}
use Rattle.tk_bind.specs.Params.{param_in}

-- tests of a stop

abbrev pub is_pipeline_timeout : Stop → Bool
is_pipeline_timeout PipelineTimeout = true
is_pipeline_timeout _ = false

abbrev pub is_cancel : Stop → Bool
is_cancel Cancelled = true
is_cancel _ = false

-- the timeout of `tasks` or of `finally`
abbrev pub is_part_timeout : Stop → Bool
is_part_timeout TasksTimeout = true
is_part_timeout FinallyTimeout = true
is_part_timeout _ = false

-- a stop that lets `finally` run
abbrev pub is_graceful : Stop → Bool
is_graceful CancelledRunFinally = true
is_graceful StoppedRunFinally = true
is_graceful _ = false

-- a child of the task failed, and that isn't ignored
abbrev pub has_failed_child : Facts → ℕ × PipelineTask → Bool
has_failed_child facts (place, task) = not task.ignore_failure && list_any (has_ended is_failure) (children_of facts place)

-- some task has a child that failed, and that isn't ignored
abbrev pub has_failure : Facts → Bool
has_failure facts = list_any (has_failed_child facts) (enumerate_from 0 (all_tasks facts))

-- a condition with its reason

abbrev pub false_with : List ℕ → Condition
false_with reason = record { holds = false; reason = reason }

abbrev pub true_with : List ℕ → Condition
true_with reason = record { holds = true; reason = reason }

-- the condition of a run that can start and whose tasks are done: the first row that holds, or else `Succeeded`
abbrev pub condition_rows : Facts → List Verdict → List (Bool × Condition)
condition_rows facts labels =
    (list_any is_pipeline_timeout facts.stops, false_with (codes "PipelineRunTimeout"))
    ∷ (list_any is_cancel facts.stops, false_with (codes "Cancelled"))
    ∷ (has_failure facts || list_any is_part_timeout facts.stops, false_with (codes "Failed"))
    ∷ (list_any is_broken_label labels, false_with (codes "InvalidTaskResultReference"))
    ∷ (list_any is_graceful facts.stops || list_any (has_ended is_cancelled) facts.children, false_with (codes "Cancelled"))
    ∷ (list_any is_skipped labels, true_with (codes "Completed"))
    ∷ []

abbrev pub finished : Facts → List Verdict → Condition
finished facts labels = unwrap_or (first_row (condition_rows facts labels)) (true_with (codes "Succeeded"))

-- the condition of a run with these labels, once it has one
abbrev pub condition_of : Facts → List Verdict → Option Condition
condition_of facts labels =
    elim facts.spec.start [ Unstartable reason ↦ Some (false_with reason) | Startable ↦ if list_all is_done labels then Some (finished facts labels) else None ]

-- the pipeline's results all of whose references have values
abbrev pub results_of : Facts → List Param
results_of facts = filter_map (param_in (results_env facts)) facts.spec.results
