-- A matrix beside a task's own parameters, its values, and what is taken of its task's results (Tekton, Matrix, Parameters and
-- Specifying Results in a Matrix).
use Rattle.std.specs.Prelude.{ℕ, Bool, true, false, not, if◌then◌else◌, List, [], ◌∷◌, ◌++◌, map, filter, Option, Some, None, codes, is_some, option_map, option_and_then}
use Rattle.tk_types.specs.declared.value.Param.{Param}
use Rattle.tk_types.specs.declared.value.Value.{Value}
use Rattle.tk_types.specs.declared.value.Value.TheVariants.{Str, Arr, Obj}
use Rattle.tk_types.specs.declared.task.Matrix.{Matrix}
use Rattle.tk_types.specs.declared.task.PipelineTask.{PipelineTask}
use Rattle.tk_types.specs.declared.object.ItemObject.{ItemObject}
use Rattle.tk_types.specs.declared.object.PipelineSpec.{PipelineSpec}
use Rattle.tk_types.specs.Fault.{matrix_conflict}
use Rattle.tk_types.specs.Place.{◌▸◌}
use Rattle.tk_types.specs.First.{first_of, first_in, first_if_there, refused_if}
use Rattle.tk_types.specs.Value.{value_named}
use Rattle.tk_vars.specs.declared.reference.Reference.{Reference}
use Rattle.tk_vars.specs.Reading.{ends_with_star}
use Rattle.tk_graph.specs.Tasks.{part_task}
use Rattle.tk_types.specs.Names.{is_in}
use Rattle.tk_validate.specs.Parts.{RuleOn, on_pipeline, on_each_task}
use Rattle.tk_validate.specs.Named.{read_references, whole_read}
use Rattle.tk_validate.specs.Names.{names_of}
use Rattle.tk_validate.specs.Sited.{TextRule, in_param, in_own_params, in_guards, in_results}

-- the names of the tasks that have a matrix
abbrev pub matrixed : PipelineSpec → List (List ℕ)
matrixed pipeline = names_of (filter (λ (t : PipelineTask). is_some t.matrix) (pipeline.tasks ++ pipeline.finally))

-- the task of these of which a reference takes a result other than as `[*]`
abbrev pub if_in : List (List ℕ) → List ℕ → Option (List ℕ)
if_in names task = if is_in names task then Some task else None

abbrev pub taken_in_part : List (List ℕ) → Reference → Option (List ℕ)
taken_in_part names r = if ends_with_star r.parts then None else option_and_then (if_in names) (part_task r.parts)

-- a text takes no such result
unfoldable pub takes_whole : List (List ℕ) → TextRule
takes_whole names whole at text = option_map (matrix_conflict at) (first_of (map (taken_in_part names) (read_references text)))

-- a value of a matrix is a list, or a `[*]` as a whole
abbrev pub may_be_list : Value → Bool
may_be_list (Str text) = is_some (whole_read text)
may_be_list (Arr texts) = true
may_be_list (Obj pairs) = false

abbrev pub listed : RuleOn Param
listed at param = refused_if (not (may_be_list param.value)) (matrix_conflict (at ▸ codes "value") param.name)

-- a parameter of a matrix isn't one of the task's own
abbrev pub apart : List Param → RuleOn Param
apart own at param = refused_if (is_some (value_named param.name own)) (matrix_conflict at param.name)

abbrev pub list_finding : List (List ℕ) → List Param → RuleOn Param
list_finding names own at param = first_of (apart own at param ∷ listed at param ∷ in_param (takes_whole names) at param ∷ [])

abbrev pub entry_finding : List (List ℕ) → List Param → RuleOn Param
entry_finding names own at param = first_of (apart own at param ∷ in_param (takes_whole names) at param ∷ [])

abbrev pub include_finding : List (List ℕ) → List Param → RuleOn (List Param)
include_finding names own at params = first_in (entry_finding names own) (at ▸ codes "params") params

abbrev pub matrix_finding : List (List ℕ) → List Param → RuleOn Matrix
matrix_finding names own at matrix =
    first_of
    (first_in (list_finding names own) (at ▸ codes "params") matrix.params
    ∷ first_in (include_finding names own) (at ▸ codes "include") matrix.include
    ∷ [])

abbrev pub task_conflicts : List (List ℕ) → Bool → RuleOn PipelineTask
task_conflicts names is_last at task =
    first_of
    (in_own_params (takes_whole names) at task
    ∷ first_if_there (matrix_finding names task.params (at ▸ codes "matrix")) task.matrix
    ∷ in_guards (takes_whole names) at task
    ∷ [])

unfoldable pub pipeline_conflicts : RuleOn PipelineSpec
pipeline_conflicts at pipeline =
    first_of
    (on_each_task (task_conflicts (matrixed pipeline)) at pipeline
    ∷ in_results (takes_whole (matrixed pipeline)) at pipeline.results
    ∷ [])

abbrev pub conflicts : RuleOn ItemObject
conflicts at object = on_pipeline pipeline_conflicts at object
