-- Values of the declared types.
use Rattle.std.specs.Prelude.{Bool, true, false, not, ◌&&◌, List, [], ◌∷◌, codes}
use Rattle.tk_types.specs.declared.value.Param.{Param}
use Rattle.tk_types.specs.declared.value.ParamSpec.{ParamSpec}
use Rattle.tk_types.specs.declared.value.ParamType.{ParamType}
use Rattle.tk_types.specs.declared.value.ParamType.TheVariants.{Str as string, Obj as object}
use Rattle.tk_types.specs.declared.value.Value.{Value}
use Rattle.tk_types.specs.declared.task.Matrix.{Matrix}
use Rattle.tk_types.specs.declared.task.PipelineTask.{PipelineTask}
use Rattle.tk_types.specs.declared.task.TaskSpec.{TaskSpec}
use Rattle.tk_types.specs.declared.object.ItemObject.{ItemObject}
use Rattle.tk_types.specs.declared.object.PipelineSpec.{PipelineSpec}
use Rattle.tk_types.specs.Fault.{wrong_type}
use Rattle.tk_types.specs.Place.{◌▸◌}
use Rattle.tk_types.specs.First.{first_of, first_in, first_if_there, refused_if}
use Rattle.tk_types.specs.Lists.{is_empty}
use Rattle.tk_types.specs.Value.{is_of_type}
use Rattle.tk_validate.specs.Parts.{RuleOn, on_pipeline, on_task_spec, on_inlined, on_each_task}

abbrev pub is_object : ParamType → Bool
is_object object = true
is_object _ = false

-- a value is of the type
abbrev pub of_type : ParamType → RuleOn Value
of_type kind at value = refused_if (not (is_of_type kind value)) (wrong_type at)

-- an object parameter has properties, and a default is of its parameter's type
abbrev pub declared_typed : RuleOn ParamSpec
declared_typed at param =
    first_of
    (refused_if (is_object param.kind && is_empty param.properties) (wrong_type at)
    ∷ first_if_there (of_type param.kind (at ▸ codes "default")) param.default_value
    ∷ [])

abbrev pub task_spec_typed : RuleOn TaskSpec
task_spec_typed at spec = first_in declared_typed (at ▸ codes "params") spec.params

-- the values of include entries are texts
abbrev pub entry_param_typed : RuleOn Param
entry_param_typed at param = of_type string (at ▸ codes "value") param.value

abbrev pub entry_typed : RuleOn (List Param)
entry_typed at params = first_in entry_param_typed (at ▸ codes "params") params

abbrev pub matrix_typed : RuleOn Matrix
matrix_typed at matrix = first_in entry_typed (at ▸ codes "include") matrix.include

abbrev pub task_typed : Bool → RuleOn PipelineTask
task_typed is_last at task =
    first_of (on_inlined task_spec_typed at task.source ∷ first_if_there (matrix_typed (at ▸ codes "matrix")) task.matrix ∷ [])

unfoldable pub pipeline_typed : RuleOn PipelineSpec
pipeline_typed at pipeline = first_of (first_in declared_typed (at ▸ codes "params") pipeline.params ∷ on_each_task task_typed at pipeline ∷ [])

abbrev pub types : RuleOn ItemObject
types at item = first_of (on_pipeline pipeline_typed at item ∷ on_task_spec task_spec_typed at item ∷ [])
