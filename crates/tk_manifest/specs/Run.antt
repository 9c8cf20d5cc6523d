-- PipelineRuns and TaskRuns (Tekton, PipelineRuns, Configuring a PipelineRun; TaskRuns, Configuring a TaskRun).
use Rattle.std.specs.Prelude.{ℕ, ◌^◌, List, [], ◌∷◌, Option, Some, None, codes, bytes_eq, if◌then◌else◌}
use Rattle.std.specs.Option.{option_map_or}
use Rattle.serde_json.specs.Data.{Data}
use Rattle.serde_json.specs.Find.{get}
use Rattle.tk_types.specs.declared.object.Asked.{Asked}
use Rattle.tk_types.specs.declared.object.Asked.TheVariants.{StoppedRunFinally, CancelledRunFinally, Cancelled}
use Rattle.tk_types.specs.declared.object.Given3.{Given3}
use Rattle.tk_types.specs.declared.object.PipelineSource.{PipelineSource}
use Rattle.tk_types.specs.declared.object.PipelineSource.TheVariants.{Named, Inlined}
use Rattle.tk_types.specs.declared.object.PipelineSpec.{PipelineSpec}
use Rattle.tk_types.specs.declared.object.RunObject.{RunObject}
use Rattle.tk_types.specs.declared.object.TaskRunObject.{TaskRunObject}
use Rattle.tk_types.specs.declared.task.Space.{Space}
use Rattle.tk_fields.specs.Check.{Check, in_order, text, one_of, number_below, each}
use Rattle.tk_fields.specs.Get.{at, field, has, number_at, text_at, list_at}
use Rattle.tk_fields.specs.Shape.{just_one, object_by, optional, required, used_fields}
use Rattle.tk_manifest.specs.declared.run.AskedWord.{AskedWord}
use Rattle.tk_manifest.specs.declared.run.RunOptions.{RunOptions}
use Rattle.tk_manifest.specs.declared.run.TaskRunLimits.{TaskRunLimits}
use Rattle.tk_manifest.specs.Parameter.{param, params_at, rows, used_field}
use Rattle.tk_manifest.specs.Task.{task_source, task_source_of}
use Rattle.tk_manifest.specs.Pipeline.{duration, millis_of, pipeline_spec, pipeline_spec_of}
use Rattle.tk_manifest.specs.Workspace.{binding, binding_of}

-- a Pipeline by its name
unfoldable pub pipeline_ref_keys : Check
pipeline_ref_keys =
    object_by (rows (codes "name" ∷ []) (codes "apiVersion" ∷ codes "kind" ∷ []) (codes "resolver" ∷ codes "params" ∷ codes "bundle" ∷ []))

unfoldable pub pipeline_ref_name : Check
pipeline_ref_name = used_field (required (codes "name") text)

unfoldable pub pipeline_ref : Check
pipeline_ref = in_order (pipeline_ref_keys ∷ pipeline_ref_name ∷ [])

-- the Pipeline of a run: `pipelineSpec`, or the name of `pipelineRef`
unfoldable pub pipeline_source : Check
pipeline_source = used_fields (optional (codes "pipelineRef") pipeline_ref ∷ optional (codes "pipelineSpec") pipeline_spec ∷ [])

abbrev pub named_or_inlined : List ℕ → Option PipelineSpec → PipelineSource
named_or_inlined name None = Named name
named_or_inlined name (Some spec) = Inlined spec

unfoldable pub pipeline_source_of : Data → PipelineSource
pipeline_source_of d = named_or_inlined (text_at (codes "name") (at (codes "pipelineRef") d)) (field pipeline_spec_of (codes "pipelineSpec") d)

-- what a manifest may ask of a run: a stop, or that it waits
abbrev pub status_words : List (List ℕ)
status_words = codes "PipelineRunPending" ∷ codes "StoppedRunFinally" ∷ codes "CancelledRunFinally" ∷ codes "Cancelled" ∷ []

abbrev pub asked_named : List ℕ → Option Asked
asked_named word =
    if bytes_eq word (codes "StoppedRunFinally") then Some StoppedRunFinally
    else if bytes_eq word (codes "CancelledRunFinally") then Some CancelledRunFinally
    else if bytes_eq word (codes "Cancelled") then Some Cancelled
    else None

abbrev pub asked_word : List ℕ → AskedWord
asked_word word = record { status = asked_named word; pending = bytes_eq word (codes "PipelineRunPending") }

unfoldable pub run_status : Check
run_status = used_field (optional (codes "status") (one_of status_words))

unfoldable pub run_status_of : Data → AskedWord
run_status_of d = asked_word (text_at (codes "status") d)

-- the timeouts of a run
unfoldable pub timeouts_keys : Check
timeouts_keys = object_by (rows (codes "pipeline" ∷ codes "tasks" ∷ codes "finally" ∷ []) [] [])

unfoldable pub timeouts_fields : Check
timeouts_fields = used_fields (optional (codes "pipeline") duration ∷ optional (codes "tasks") duration ∷ optional (codes "finally") duration ∷ [])

unfoldable pub timeouts : Check
timeouts = in_order (timeouts_keys ∷ timeouts_fields ∷ [])

unfoldable pub timeouts_of : Data → Given3
timeouts_of d = record { pipeline = field millis_of (codes "pipeline") d; tasks = field millis_of (codes "tasks") d; finally = field millis_of (codes "finally") d }

unfoldable pub run_timeouts : Check
run_timeouts = used_field (optional (codes "timeouts") timeouts)

-- the workspaces that are bound, and the parameters that are given
unfoldable pub bindings : Check
bindings = used_field (optional (codes "workspaces") (each binding))

unfoldable pub given_params : Check
given_params = used_field (optional (codes "params") (each param))

-- a PipelineRun
unfoldable pub run_keys : Check
run_keys =
    object_by (rows
    (codes "pipelineRef" ∷ codes "pipelineSpec" ∷ codes "params" ∷ codes "status" ∷ codes "timeouts" ∷ codes "workspaces" ∷ [])
    (codes "taskRunTemplate" ∷ codes "taskRunSpecs" ∷ [])
    (codes "managedBy" ∷ []))

unfoldable pub run_options : Check
run_options = in_order (run_status ∷ run_timeouts ∷ bindings ∷ [])

unfoldable pub run_options_of : Data → RunOptions
run_options_of d =
    record { asked = run_status_of d; timeouts = timeouts_of (at (codes "timeouts") d); bindings = list_at binding_of (codes "workspaces") d }

unfoldable pub run_spec : Check
run_spec = in_order (run_keys ∷ pipeline_source ∷ given_params ∷ run_options ∷ just_one (codes "pipelineRef") (codes "pipelineSpec") ∷ [])

unfoldable pub run_of : List ℕ → Data → RunObject
run_of name d =
    record {
      name = name;
      source = pipeline_source_of d;
      params = params_at (codes "params") d;
      status = (run_status_of d).status;
      pending = (run_status_of d).pending;
      timeouts = timeouts_of (at (codes "timeouts") d);
      bindings = list_at binding_of (codes "workspaces") d;
    }

-- a TaskRun
unfoldable pub task_run_keys : Check
task_run_keys =
    object_by (rows
    (codes "taskRef" ∷ codes "taskSpec" ∷ codes "params" ∷ codes "status" ∷ codes "timeout" ∷ codes "retries" ∷ codes "workspaces" ∷ [])
    (codes "serviceAccountName" ∷ codes "podTemplate" ∷ codes "computeResources" ∷ codes "statusMessage" ∷ [])
    (codes "stepSpecs" ∷ codes "sidecarSpecs" ∷ codes "debug" ∷ []))

abbrev pub cancelled_words : List (List ℕ)
cancelled_words = codes "TaskRunCancelled" ∷ []

abbrev pub one_hour : ℕ
one_hour = 3600000

unfoldable pub task_run_limits : Check
task_run_limits =
    used_fields
    (optional (codes "status") (one_of cancelled_words) ∷ optional (codes "timeout") duration ∷ optional (codes "retries") (number_below (2 ^ 32)) ∷ [])

abbrev pub timeout_of : Data → ℕ
timeout_of d = option_map_or millis_of (get (codes "timeout") d) one_hour

unfoldable pub task_run_limits_of : Data → TaskRunLimits
task_run_limits_of d = record { cancelled = has (codes "status") d; timeout = timeout_of d; retries = number_at (codes "retries") d }

unfoldable pub task_run_options : Check
task_run_options = in_order (task_run_limits ∷ bindings ∷ [])

unfoldable pub task_run_options_of : Data → TaskRunLimits × List Space
task_run_options_of d = (task_run_limits_of d, list_at binding_of (codes "workspaces") d)

unfoldable pub task_run_spec : Check
task_run_spec = in_order (task_run_keys ∷ task_source ∷ given_params ∷ task_run_options ∷ just_one (codes "taskRef") (codes "taskSpec") ∷ [])

unfoldable pub task_run_of : List ℕ → Data → TaskRunObject
task_run_of name d =
    record {
      name = name;
      source = task_source_of d;
      params = params_at (codes "params") d;
      cancelled = has (codes "status") d;
      retries = number_at (codes "retries") d;
      timeout = timeout_of d;
      bindings = list_at binding_of (codes "workspaces") d;
    }
