-- Steps, Tasks and references to Tasks (Tekton, Tasks, Configuring a Task).
use Rattle.std.specs.Prelude.{ℕ, Bool, not, ◌&&◌, ◌||◌, List, [], ◌∷◌, Option, Some, None, codes, bytes_eq}
use Rattle.serde_json.specs.Data.{Data}
use Rattle.tk_types.specs.declared.value.Pair.{Pair}
use Rattle.tk_types.specs.declared.task.Step.{Step}
use Rattle.tk_types.specs.declared.task.TaskSpec.{TaskSpec}
use Rattle.tk_types.specs.declared.task.TaskSource.{TaskSource}
use Rattle.tk_types.specs.declared.task.TaskSource.TheVariants.{Named, Inlined}
use Rattle.tk_types.specs.Fault.{bad_choice, bad_name, unsupported}
use Rattle.tk_types.specs.Place.{Place, ◌▸◌}
use Rattle.tk_types.specs.First.{Finding, first_of, refused_if}
use Rattle.tk_types.specs.Lists.{is_empty}
use Rattle.tk_names.specs.Rules.{is_dns_label, is_env_name}
use Rattle.tk_fields.specs.Check.{Check, in_order, text, text_that, one_of, each, some_of}
use Rattle.tk_fields.specs.Get.{at, field, has, text_at, text_of, texts_at, list_at}
use Rattle.tk_fields.specs.Shape.{object_by, optional, required, used_fields}
use Rattle.tk_manifest.specs.declared.task.StepCommand.{StepCommand}
use Rattle.tk_manifest.specs.Parameter.{named, param_spec, param_spec_of, rows, task_result, task_result_of, used_field}
use Rattle.tk_manifest.specs.Workspace.{task_space, space_spec_of}

-- a variable of a step
unfoldable pub env_keys : Check
env_keys = object_by (rows (codes "name" ∷ codes "value" ∷ []) [] (codes "valueFrom" ∷ []))

unfoldable pub env_fields : Check
env_fields = used_fields (required (codes "name") (text_that is_env_name bad_name) ∷ optional (codes "value") text ∷ [])

unfoldable pub env : Check
env = in_order (env_keys ∷ env_fields ∷ [])

unfoldable pub env_of : Data → Pair
env_of d = record { key = text_at (codes "name") d; value = text_at (codes "value") d }

-- what follows a failure
abbrev pub on_error_words : List (List ℕ)
on_error_words = codes "continue" ∷ codes "stopAndFail" ∷ []

abbrev pub is_continue : List ℕ → Bool
is_continue word = bytes_eq word (codes "continue")

unfoldable pub on_error : Check
on_error = used_field (optional (codes "onError") (one_of on_error_words))

unfoldable pub continues : Data → Bool
continues d = is_continue (text_at (codes "onError") d)

-- a step has a script or a command; an image's own command isn't known
unfoldable pub script_or_command : Bool → List (List ℕ) → Place → Finding
script_or_command has_script command place =
    first_of
    (refused_if (has_script && not (is_empty command)) (bad_choice (place ▸ codes "script"))
    ∷ refused_if (not has_script && is_empty command) (unsupported place)
    ∷ [])

abbrev pub runs_something : Check
runs_something place d = script_or_command (has (codes "script") d) (texts_at (codes "command") d) place

unfoldable pub step_keys : Check
step_keys =
    object_by (rows
    (codes "name" ∷ codes "command" ∷ codes "args" ∷ codes "script" ∷ codes "env" ∷ codes "workingDir" ∷ codes "onError" ∷ [])
    (codes "image" ∷ codes "imagePullPolicy" ∷ codes "computeResources" ∷ codes "displayName" ∷ codes "securityContext" ∷ [])
    (codes "timeout"
    ∷ codes "ref"
    ∷ codes "params"
    ∷ codes "results"
    ∷ codes "when"
    ∷ codes "envFrom"
    ∷ codes "volumeMounts"
    ∷ codes "volumeDevices"
    ∷ codes "workspaces"
    ∷ codes "stdoutConfig"
    ∷ codes "stderrConfig"
    ∷ []))

unfoldable pub step_command : Check
step_command =
    used_fields
    (optional (codes "name") (named is_dns_label)
    ∷ optional (codes "command") (each text)
    ∷ optional (codes "args") (each text)
    ∷ optional (codes "script") text
    ∷ [])

unfoldable pub step_command_of : Data → StepCommand
step_command_of d =
    record {
      name = field text_of (codes "name") d;
      command = texts_at (codes "command") d;
      args = texts_at (codes "args") d;
      script = field text_of (codes "script") d;
    }

unfoldable pub step_surroundings : Check
step_surroundings = used_fields (optional (codes "env") (each env) ∷ optional (codes "workingDir") text ∷ [])

unfoldable pub step : Check
step = in_order (step_keys ∷ step_command ∷ step_surroundings ∷ on_error ∷ runs_something ∷ [])

unfoldable pub step_of : Data → Step
step_of d =
    record {
      name = field text_of (codes "name") d;
      command = texts_at (codes "command") d;
      args = texts_at (codes "args") d;
      script = field text_of (codes "script") d;
      env = list_at env_of (codes "env") d;
      dir = field text_of (codes "workingDir") d;
      keep_going = continues d;
    }

-- what a Task does
unfoldable pub task_spec_keys : Check
task_spec_keys =
    object_by (rows
    (codes "params" ∷ codes "steps" ∷ codes "results" ∷ codes "workspaces" ∷ [])
    (codes "description" ∷ codes "displayName" ∷ codes "metadata" ∷ [])
    (codes "volumes" ∷ codes "sidecars" ∷ codes "stepTemplate" ∷ codes "apiVersion" ∷ codes "kind" ∷ codes "spec" ∷ []))

unfoldable pub task_spec_fields : Check
task_spec_fields =
    used_fields
    (optional (codes "params") (each param_spec)
    ∷ required (codes "steps") (some_of step)
    ∷ optional (codes "results") (each task_result)
    ∷ optional (codes "workspaces") (each task_space)
    ∷ [])

unfoldable pub task_spec : Check
task_spec = in_order (task_spec_keys ∷ task_spec_fields ∷ [])

unfoldable pub task_spec_of : Data → TaskSpec
task_spec_of d =
    record {
      params = list_at param_spec_of (codes "params") d;
      steps = list_at step_of (codes "steps") d;
      results = list_at task_result_of (codes "results") d;
      spaces = list_at space_spec_of (codes "workspaces") d;
    }

-- a Task by its name; other kinds of reference aren't supported
abbrev pub is_task_kind : List ℕ → Bool
is_task_kind kind = bytes_eq kind (codes "Task")

abbrev pub is_task_version : List ℕ → Bool
is_task_version version = is_empty version || bytes_eq version (codes "tekton.dev/v1")

unfoldable pub task_ref_keys : Check
task_ref_keys =
    object_by (rows (codes "name" ∷ codes "kind" ∷ codes "apiVersion" ∷ []) [] (codes "resolver" ∷ codes "params" ∷ codes "bundle" ∷ []))

unfoldable pub task_ref_fields : Check
task_ref_fields =
    used_fields
    (required (codes "name") text
    ∷ optional (codes "kind") (text_that is_task_kind unsupported)
    ∷ optional (codes "apiVersion") (text_that is_task_version unsupported)
    ∷ [])

unfoldable pub task_ref : Check
task_ref = in_order (task_ref_keys ∷ task_ref_fields ∷ [])

-- the Task of a pipeline task or of a TaskRun: `taskSpec`, or the name of `taskRef`
unfoldable pub task_source : Check
task_source = used_fields (optional (codes "taskRef") task_ref ∷ optional (codes "taskSpec") task_spec ∷ [])

abbrev pub named_or_inlined : List ℕ → Option TaskSpec → TaskSource
named_or_inlined name None = Named name
named_or_inlined name (Some spec) = Inlined spec

unfoldable pub task_source_of : Data → TaskSource
task_source_of d = named_or_inlined (text_at (codes "name") (at (codes "taskRef") d)) (field task_spec_of (codes "taskSpec") d)
