-- Pipelines and their tasks (Tekton, Pipelines, Configuring a Pipeline).
use Rattle.std.specs.Prelude.{ℕ, ◌^◌, Bool, nat_lt, ◌&&◌, List, [], ◌∷◌, codes, bytes_eq, is_some, unwrap_or}
use Rattle.serde_json.specs.Data.{Data}
use Rattle.tk_types.specs.declared.value.Param.{Param}
use Rattle.tk_types.specs.declared.task.When.{When}
use Rattle.tk_types.specs.declared.task.Matrix.{Matrix}
use Rattle.tk_types.specs.declared.task.PipelineTask.{PipelineTask}
use Rattle.tk_types.specs.declared.object.PipelineSpec.{PipelineSpec}
use Rattle.tk_types.specs.Fault.{bad_choice, bad_duration, missing_field}
use Rattle.tk_types.specs.Place.{Place, ◌▸◌}
use Rattle.tk_types.specs.First.{Finding, first_of, refused_if}
use Rattle.tk_types.specs.Lists.{is_empty}
use Rattle.tk_names.specs.Rules.{is_dns_label}
use Rattle.tk_time.specs.Duration.{duration_of}
use Rattle.tk_fields.specs.Check.{Check, in_order, text, text_that, one_of, number_below, each, some_of}
use Rattle.tk_fields.specs.Get.{at, field, number_at, text_at, text_of, texts_at, list_at}
use Rattle.tk_fields.specs.Shape.{just_one, object_by, optional, required, used_fields}
use Rattle.tk_manifest.specs.declared.pipeline.TaskInputs.{TaskInputs}
use Rattle.tk_manifest.specs.declared.pipeline.TaskOptions.{TaskOptions}
use Rattle.tk_manifest.specs.Parameter.{named, param, params_at, param_spec, param_spec_of, pipeline_result, rows, used_field}
use Rattle.tk_manifest.specs.Task.{continues, on_error, task_source, task_source_of}
use Rattle.tk_manifest.specs.Workspace.{pipeline_space, space_spec_of, space_use, space_use_of}

-- a duration, in milliseconds
unfoldable pub duration : Check
duration = text_that (λ t. is_some (duration_of t)) bad_duration

unfoldable pub millis_of : Data → ℕ
millis_of d = unwrap_or (duration_of (text_of d)) 0

-- a guard
abbrev pub is_in : List ℕ → Bool
is_in word = bytes_eq word (codes "in")

abbrev pub operator_words : List (List ℕ)
operator_words = codes "in" ∷ codes "notin" ∷ []

unfoldable pub when_keys : Check
when_keys = object_by (rows (codes "input" ∷ codes "operator" ∷ codes "values" ∷ []) [] (codes "cel" ∷ []))

unfoldable pub when_fields : Check
when_fields =
    used_fields (required (codes "input") text ∷ required (codes "operator") (one_of operator_words) ∷ required (codes "values") (each text) ∷ [])

unfoldable pub when : Check
when = in_order (when_keys ∷ when_fields ∷ [])

unfoldable pub when_of : Data → When
when_of d = record { input = text_at (codes "input") d; is_member = is_in (text_at (codes "operator") d); values = texts_at (codes "values") d }

-- a combination that a matrix adds
unfoldable pub include_keys : Check
include_keys = object_by (rows (codes "params" ∷ []) (codes "name" ∷ []) [])

unfoldable pub include_params : Check
include_params = used_field (required (codes "params") (each param))

unfoldable pub include_entry : Check
include_entry = in_order (include_keys ∷ include_params ∷ [])

abbrev pub include_of : Data → List Param
include_of d = params_at (codes "params") d

-- a matrix has something to combine
unfoldable pub matrix_keys : Check
matrix_keys = object_by (rows (codes "params" ∷ codes "include" ∷ []) [] [])

unfoldable pub matrix_fields : Check
matrix_fields = used_fields (optional (codes "params") (each param) ∷ optional (codes "include") (each include_entry) ∷ [])

unfoldable pub matrix_of : Data → Matrix
matrix_of d = record { params = params_at (codes "params") d; include = list_at include_of (codes "include") d }

unfoldable pub empty_matrix : Matrix → Place → Finding
empty_matrix m place = refused_if (is_empty m.params && is_empty m.include) (missing_field place)

unfoldable pub matrix : Check
matrix = in_order (matrix_keys ∷ matrix_fields ∷ (λ place d. empty_matrix (matrix_of d) place) ∷ [])

-- a task of a pipeline
unfoldable pub pipeline_task_keys : Check
pipeline_task_keys =
    object_by (rows
    (codes "name"
    ∷ codes "taskRef"
    ∷ codes "taskSpec"
    ∷ codes "params"
    ∷ codes "matrix"
    ∷ codes "runAfter"
    ∷ codes "when"
    ∷ codes "retries"
    ∷ codes "timeout"
    ∷ codes "onError"
    ∷ codes "workspaces"
    ∷ [])
    (codes "description" ∷ codes "displayName" ∷ [])
    (codes "pipelineRef" ∷ codes "pipelineSpec" ∷ []))

abbrev pub task_name : Check
task_name = used_field (required (codes "name") (named is_dns_label))

unfoldable pub task_front : Check
task_front = in_order (task_name ∷ task_source ∷ [])

unfoldable pub task_inputs : Check
task_inputs =
    used_fields
    (optional (codes "params") (each param)
    ∷ optional (codes "matrix") matrix
    ∷ optional (codes "runAfter") (each text)
    ∷ optional (codes "when") (each when)
    ∷ [])

unfoldable pub task_inputs_of : Data → TaskInputs
task_inputs_of d =
    record {
      params = params_at (codes "params") d;
      matrix = field matrix_of (codes "matrix") d;
      run_after = texts_at (codes "runAfter") d;
      when = list_at when_of (codes "when") d;
    }

unfoldable pub task_limits : Check
task_limits = used_fields (optional (codes "retries") (number_below (2 ^ 32)) ∷ optional (codes "timeout") duration ∷ [])

unfoldable pub task_spaces : Check
task_spaces = used_field (optional (codes "workspaces") (each space_use))

unfoldable pub task_options : Check
task_options = in_order (task_limits ∷ on_error ∷ task_spaces ∷ [])

unfoldable pub task_options_of : Data → TaskOptions
task_options_of d =
    record {
      retries = number_at (codes "retries") d;
      timeout = millis_of (at (codes "timeout") d);
      ignore_failure = continues d;
      spaces = list_at space_use_of (codes "workspaces") d;
    }

-- a failure that is ignored isn't tried again
unfoldable pub ignored_with_retries : Bool → ℕ → Place → Finding
ignored_with_retries ignore_failure retries place = refused_if (ignore_failure && nat_lt 0 retries) (bad_choice (place ▸ codes "onError"))

unfoldable pub task_rules : Check
task_rules place d =
    first_of (just_one (codes "taskRef") (codes "taskSpec") place d ∷ ignored_with_retries (continues d) (number_at (codes "retries") d) place ∷ [])

unfoldable pub pipeline_task : Check
pipeline_task = in_order (pipeline_task_keys ∷ task_front ∷ task_inputs ∷ task_options ∷ task_rules ∷ [])

unfoldable pub pipeline_task_of : Data → PipelineTask
pipeline_task_of d =
    record {
      name = text_at (codes "name") d;
      source = task_source_of d;
      params = params_at (codes "params") d;
      matrix = field matrix_of (codes "matrix") d;
      run_after = texts_at (codes "runAfter") d;
      when = list_at when_of (codes "when") d;
      retries = number_at (codes "retries") d;
      timeout = millis_of (at (codes "timeout") d);
      ignore_failure = continues d;
      spaces = list_at space_use_of (codes "workspaces") d;
    }

-- a pipeline
unfoldable pub pipeline_spec_keys : Check
pipeline_spec_keys =
    object_by (rows
    (codes "params" ∷ codes "tasks" ∷ codes "finally" ∷ codes "results" ∷ codes "workspaces" ∷ [])
    (codes "description" ∷ codes "displayName" ∷ [])
    [])

unfoldable pub pipeline_spec_fields : Check
pipeline_spec_fields =
    used_fields
    (optional (codes "params") (each param_spec)
    ∷ required (codes "tasks") (some_of pipeline_task)
    ∷ optional (codes "finally") (each pipeline_task)
    ∷ optional (codes "results") (each pipeline_result)
    ∷ optional (codes "workspaces") (each pipeline_space)
    ∷ [])

unfoldable pub pipeline_spec : Check
pipeline_spec = in_order (pipeline_spec_keys ∷ pipeline_spec_fields ∷ [])

unfoldable pub pipeline_spec_of : Data → PipelineSpec
pipeline_spec_of d =
    record {
      params = list_at param_spec_of (codes "params") d;
      tasks = list_at pipeline_task_of (codes "tasks") d;
      finally = list_at pipeline_task_of (codes "finally") d;
      results = params_at (codes "results") d;
      spaces = list_at space_spec_of (codes "workspaces") d;
    }
