-- Resolved PipelineRuns (Tekton, PipelineRuns, Specifying the target Pipeline).
use Rattle.std.specs.Prelude.{ℕ, Bool, ◌||◌, not, List, [], ◌∷◌, ◌++◌, map, flat_map, Option, Some, None, option_map}
use Rattle.std.specs.List.{list_any, zip}
use Rattle.tk_types.specs.declared.value.Pair.{Pair}
use Rattle.tk_types.specs.declared.value.Param.{Param}
use Rattle.tk_types.specs.declared.task.PipelineTask.{PipelineTask}
use Rattle.tk_types.specs.declared.task.TaskBody.{TaskBody}
use Rattle.tk_types.specs.declared.task.TaskSource.{TaskSource}
use Rattle.tk_types.specs.declared.task.TaskSource.TheVariants.{Named, Inlined}
use Rattle.tk_types.specs.declared.run.RunSpec.{RunSpec}
use Rattle.tk_types.specs.declared.object.Item.{Item}
use Rattle.tk_types.specs.declared.object.PipelineSource.{PipelineSource}
use Rattle.tk_types.specs.declared.object.PipelineSource.TheVariants.{Named as NamedPipeline, Inlined as InlinedPipeline}
use Rattle.tk_types.specs.declared.object.PipelineSpec.{PipelineSpec}
use Rattle.tk_types.specs.declared.object.RunObject.{RunObject}
use Rattle.tk_types.specs.Lists.{all_some, first_row}
use Rattle.tk_bind.specs.declared.env.Env.{Env}
use Rattle.tk_early.specs.Words.{words_of}
use Rattle.tk_resolve.specs.declared.due.Due.TheVariants.{AnyValue}
use Rattle.tk_resolve.specs.Due.{task_dues, params_dues}
use Rattle.tk_resolve.specs.Lookup.{task_named, pipeline_named}
use Rattle.tk_resolve.specs.Misuse.{any_lacks, any_misuse}
use Rattle.tk_resolve.specs.declared.reason.Reason.{Reason}
use Rattle.tk_resolve.specs.declared.reason.Reason.TheVariants.{CouldntGetPipeline, CouldntGetTask, ParameterMissing, ParameterTypeMismatch, InvalidTaskResultReference, InvalidWorkspaceBindings}
use Rattle.tk_resolve.specs.Reasons.{start_of}
use Rattle.tk_resolve.specs.Settled.{all_fit}
use Rattle.tk_resolve.specs.Spaces.{handed_spaces, has_unbound}
use Rattle.tk_resolve.specs.Timeouts.{pipeline_ms, tasks_ms, finally_ms}
use Rattle.tk_resolve.specs.Values.{all_values, outer_values, defaults, has_missing, has_mismatch}

-- the spec that a run runs, its own or that of an earlier Pipeline, and the Pipeline's name: an inlined spec has the run's
abbrev pub pipeline_of : List Item → PipelineSource → Option PipelineSpec
pipeline_of earlier (NamedPipeline name) = pipeline_named earlier name
pipeline_of earlier (InlinedPipeline spec) = Some spec

abbrev pub pipeline_name : RunObject → PipelineSource → List ℕ
pipeline_name run (NamedPipeline name) = name
pipeline_name run (InlinedPipeline spec) = run.name

-- what a task runs: an earlier Task, which sees nothing from outside, or its own spec, which has the task's name and sees
-- what is given to the run and declared by the pipeline
abbrev pub body_of : List Item → RunObject → PipelineSpec → PipelineTask → TaskSource → Option TaskBody
body_of earlier run pipeline task (Named name) =
    option_map (λ spec. record { spec = spec; task_name = name; outer = []; fallback = []; bound = handed_spaces run.bindings task.spaces spec.spaces })
    (task_named earlier name)
body_of earlier run pipeline task (Inlined spec) =
    Some (record {
      spec = spec;
      task_name = task.name;
      outer = outer_values pipeline.params run.params;
      fallback = defaults pipeline.params;
      bound = handed_spaces run.bindings task.spaces spec.spaces;
    })

abbrev pub all_tasks : PipelineSpec → List PipelineTask
all_tasks pipeline = pipeline.tasks ++ pipeline.finally

-- the bodies of all tasks, where each is found
abbrev pub bodies_of : List Item → RunObject → PipelineSpec → Option (List TaskBody)
bodies_of earlier run pipeline = all_some (map (λ (t : PipelineTask). body_of earlier run pipeline t t.source) (all_tasks pipeline))

-- what the texts of a task see at admission
abbrev pub task_words : RunObject → PipelineTask → List Pair
task_words run task = words_of run.name (pipeline_name run run.source) task

abbrev pub env_with : RunObject → PipelineSpec → List Pair → Env
env_with run pipeline words = record { params = all_values pipeline.params run.params; results = []; words = words }

-- a text of the task takes of a parameter what isn't there or isn't due, or a known combination doesn't fit
abbrev pub task_lacks : RunObject → PipelineSpec → PipelineTask × TaskBody → Bool
task_lacks run pipeline (task, body) =
    let env = env_with run pipeline (task_words run task) in
    any_lacks env [] (task_dues task) || not (all_fit env task body)

-- the same of the pipeline's results, whose texts see no more than parameters and results
abbrev pub results_lack : RunObject → PipelineSpec → Bool
results_lack run pipeline = any_lacks (env_with run pipeline []) [] (params_dues AnyValue pipeline.results)

-- a needed parameter is missing: one of the run's own, one of a task, or one of a pipeline result
abbrev pub lacks_parameter : RunObject → PipelineSpec → List TaskBody → Bool
lacks_parameter run pipeline bodies =
    has_missing pipeline.params run.params || list_any (task_lacks run pipeline) (zip (all_tasks pipeline) bodies) || results_lack run pipeline

-- a result of a task is misused by a task or by a pipeline result
abbrev pub misuses_result : PipelineSpec → List TaskBody → Bool
misuses_result pipeline bodies =
    any_misuse (zip (all_tasks pipeline) bodies) (flat_map task_dues (all_tasks pipeline) ++ params_dues AnyValue pipeline.results)

-- a workspace of the pipeline or of a Task that isn't optional is bound to nothing
abbrev pub lacks_workspace : RunObject → PipelineSpec → List TaskBody → Bool
lacks_workspace run pipeline bodies =
    has_unbound run.bindings pipeline.spaces || list_any (λ (body : TaskBody). has_unbound body.bound body.spec.spaces) bodies

-- the first reason why a run whose Pipeline and Tasks are found can't start
abbrev pub first_reason : RunObject → PipelineSpec → List TaskBody → Option Reason
first_reason run pipeline bodies =
    first_row
    ((lacks_parameter run pipeline bodies, ParameterMissing)
    ∷ (has_mismatch pipeline.params run.params, ParameterTypeMismatch)
    ∷ (misuses_result pipeline bodies, InvalidTaskResultReference)
    ∷ (lacks_workspace run pipeline bodies, InvalidWorkspaceBindings)
    ∷ [])

-- a run that can't start, with these parameters and this reason: it has no tasks
abbrev pub unstartable : RunObject → List Param → Reason → RunSpec
unstartable run params reason =
    record {
      name = run.name;
      pipeline = pipeline_name run run.source;
      params = params;
      tasks = [];
      finally = [];
      bodies = [];
      results = [];
      pipeline_ms = pipeline_ms run.timeouts;
      tasks_ms = tasks_ms run.timeouts;
      finally_ms = finally_ms run.timeouts;
      start = start_of (Some reason);
    }

-- a run that can start, with these parameters and bodies
abbrev pub startable : RunObject → PipelineSpec → List Param → List TaskBody → RunSpec
startable run pipeline params bodies =
    record {
      name = run.name;
      pipeline = pipeline_name run run.source;
      params = params;
      tasks = pipeline.tasks;
      finally = pipeline.finally;
      bodies = bodies;
      results = pipeline.results;
      pipeline_ms = pipeline_ms run.timeouts;
      tasks_ms = tasks_ms run.timeouts;
      finally_ms = finally_ms run.timeouts;
      start = start_of None;
    }

-- a run whose Pipeline and Tasks are found
abbrev pub run_with_bodies : RunObject → PipelineSpec → List TaskBody → RunSpec
run_with_bodies run pipeline bodies =
    let params = all_values pipeline.params run.params in
    elim (first_reason run pipeline bodies) [
      | Some reason ↦ unstartable run params reason
      | None ↦ startable run pipeline params bodies
    ]

-- a run whose Pipeline is found
abbrev pub run_with_pipeline : List Item → RunObject → PipelineSpec → RunSpec
run_with_pipeline earlier run pipeline =
    elim (bodies_of earlier run pipeline) [
      | None ↦ unstartable run (all_values pipeline.params run.params) CouldntGetTask
      | Some bodies ↦ run_with_bodies run pipeline bodies
    ]

-- the run with all that it refers to among the earlier objects
abbrev pub resolved_run : List Item → RunObject → RunSpec
resolved_run earlier run =
    elim (pipeline_of earlier run.source) [
      | None ↦ unstartable run run.params CouldntGetPipeline
      | Some pipeline ↦ run_with_pipeline earlier run pipeline
    ]
