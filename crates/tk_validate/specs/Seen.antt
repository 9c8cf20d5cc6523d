-- What the references of a text may name (Tekton, Pipelines, Variable Substitutions Supported by Tasks and Pipelines; Tekton,
-- PipelineRuns, Propagated Parameters).
use Rattle.std.specs.Prelude.{ℕ, Bool, true, false, if◌then◌else◌, List, [], ◌∷◌, ◌++◌, map, Option, Some, None, codes, bytes_eq, filter, filter_map, find, flat_map, is_none, option_map, option_and_then}
use Rattle.std.specs.List.{list_all}
use Rattle.std.specs.Option.{option_map_or}
use Rattle.tk_types.specs.declared.value.Pair.{Pair}
use Rattle.tk_types.specs.declared.value.Param.{Param}
use Rattle.tk_types.specs.declared.value.ParamSpec.{ParamSpec}
use Rattle.tk_types.specs.declared.value.ParamType.{ParamType}
use Rattle.tk_types.specs.declared.value.ParamType.TheVariants.{Str as string, Arr as array, Obj as object}
use Rattle.tk_types.specs.declared.value.Value.{Value}
use Rattle.tk_types.specs.declared.value.Value.TheVariants.{Str, Arr, Obj}
use Rattle.tk_types.specs.declared.task.Matrix.{Matrix}
use Rattle.tk_types.specs.declared.task.PipelineTask.{PipelineTask}
use Rattle.tk_types.specs.declared.task.TaskSpec.{TaskSpec}
use Rattle.tk_types.specs.declared.object.PipelineSpec.{PipelineSpec}
use Rattle.tk_types.specs.Behaviour.{type_of}
use Rattle.tk_vars.specs.declared.reference.Reference.{Reference}
use Rattle.tk_vars.specs.Target.{Target, param, target_of}
use Rattle.tk_bind.specs.declared.scope.Scope.{Scope}
use Rattle.tk_bind.specs.Fits.{result_words, space_words}
use Rattle.tk_validate.specs.declared.seen.Seen.{Seen}
use Rattle.tk_validate.specs.Named.{whole_read}
use Rattle.tk_validate.specs.Names.{names_of}

-- a parameter that texts see, with its type where that is known; of one name the first counts
abbrev pub seen : List ℕ → Option ParamType → Seen
seen name kind = record { name = name; kind = kind }

abbrev pub is_of_name : List ℕ → Seen → Bool
is_of_name name s = bytes_eq s.name name

abbrev pub kind_seen : List Seen → List ℕ → Option ParamType
kind_seen all name = option_and_then (λ (s : Seen). s.kind) (find (is_of_name name) all)

-- declared parameters, and those given to a run, whose values aren't substituted
abbrev pub declared_seen : List ParamSpec → List Seen
declared_seen params = map (λ (p : ParamSpec). seen p.name (Some p.kind)) params

abbrev pub given_seen : List Param → List Seen
given_seen params = map (λ (p : Param). seen p.name (Some (type_of p.value))) params

-- the value of a `[*]` is of the type of the list or the object that it names; nothing is known of a result
abbrev pub unless_text : ParamType → Option ParamType
unless_text string = None
unless_text array = Some array
unless_text object = Some object

abbrev pub kind_of_target : List Seen → Target → Option ParamType
kind_of_target outer (param name selector) = option_and_then unless_text (kind_seen outer name)
kind_of_target outer target = None

abbrev pub kind_of_star : List Seen → Reference → Option ParamType
kind_of_star outer r = kind_of_target outer (target_of r.parts)

abbrev pub kind_of_value : List Seen → Value → Option ParamType
kind_of_value outer (Str text) = option_map_or (kind_of_star outer) (whole_read text) (Some string)
kind_of_value outer (Arr texts) = Some array
kind_of_value outer (Obj pairs) = Some object

-- what a task gives: by its parameters, by the lists of its matrix, and by the entries of it
abbrev pub params_seen : List Seen → List Param → List Seen
params_seen outer params = map (λ (p : Param). seen p.name (kind_of_value outer p.value)) params

abbrev pub lists_seen : List Param → List Seen
lists_seen params = map (λ (p : Param). seen p.name (Some string)) params

-- what entries give has a type where all entries of the name give the same
abbrev pub is_kind : Option ParamType → Option ParamType → Bool
is_kind (Some string) (Some string) = true
is_kind (Some array) (Some array) = true
is_kind (Some object) (Some object) = true
is_kind _ _ = false

abbrev pub agreed : List Seen → Seen → Seen
agreed all s = seen s.name (if list_all (λ (other : Seen). is_kind s.kind other.kind) (filter (is_of_name s.name) all) then s.kind else None)

abbrev pub entries_seen : List Seen → List (List Param) → List Seen
entries_seen outer entries = map (agreed (flat_map (params_seen outer) entries)) (flat_map (params_seen outer) entries)

abbrev pub matrix_seen : List Seen → Option Matrix → List Seen
matrix_seen outer None = []
matrix_seen outer (Some matrix) = lists_seen matrix.params ++ entries_seen outer matrix.include

-- the texts of a pipeline see what it declares and what is given to its run; what a task gives comes before that
abbrev pub pipeline_seen : List Param → PipelineSpec → List Seen
pipeline_seen given pipeline = declared_seen pipeline.params ++ given_seen given

abbrev pub task_seen : List Seen → PipelineTask → List Seen
task_seen outer task = params_seen outer task.params ++ matrix_seen outer task.matrix ++ outer

-- those of a known type, and the names of the others
abbrev pub typed_of : Seen → Option ParamSpec
typed_of s = option_map (λ kind. record { name = s.name; kind = kind; default_value = None; properties = [] }) s.kind

abbrev pub untyped_of : List Seen → List (List ℕ)
untyped_of all = map (λ (s : Seen). s.name) (filter (λ (s : Seen). is_none (kind_seen all s.name)) all)

-- the context variables of a pipeline, and those of a Task
abbrev pub pipeline_context : List (List ℕ)
pipeline_context = codes "context.pipelineRun.name" ∷ codes "context.pipeline.name" ∷ codes "context.pipelineTask.retries" ∷ []

abbrev pub task_context : List (List ℕ)
task_context = codes "context.taskRun.name" ∷ codes "context.task.name" ∷ codes "context.task.retry-count" ∷ []

-- the texts of a pipeline name its tasks, and those of its results, with the head `finally` too
abbrev pub pipeline_scope : Bool → List Seen → PipelineSpec → Scope
pipeline_scope in_results all pipeline =
    record {
      params = filter_map typed_of all;
      untyped = untyped_of all;
      tasks = names_of pipeline.tasks ++ names_of pipeline.finally;
      words = pipeline_context;
      results = true;
      finally_results = in_results;
      paths = [];
    }

-- the texts of a Task's steps name its parameters and what is seen outside, its workspaces and the paths of its results, and no task
abbrev pub keys : List Pair → List (List ℕ)
keys words = map (λ (p : Pair). p.key) words

abbrev pub step_scope : List Seen → List (List ℕ) → TaskSpec → Scope
step_scope outside context spec =
    let all = declared_seen spec.params ++ outside in
    record {
      params = filter_map typed_of all;
      untyped = untyped_of all;
      tasks = [];
      words = context ++ keys (space_words spec.spaces);
      results = false;
      finally_results = false;
      paths = keys (result_words spec.results);
    }
