-- Values, parameters and results (Tekton, Tasks, Specifying Parameters and Emitting Results).
use Rattle.std.specs.Prelude.{ℕ, Bool, true, false, ◌&&◌, if◌then◌else◌, List, [], ◌∷◌, ◌++◌, map, Option, Some, None, codes, bytes_eq, unwrap_or}
use Rattle.std.specs.List.{list_any}
use Rattle.std.specs.Option.{option_map_or}
use Rattle.serde_json.specs.Data.{Data, string, array, object}
use Rattle.tk_types.specs.declared.value.Param.{Param}
use Rattle.tk_types.specs.declared.value.ParamSpec.{ParamSpec}
use Rattle.tk_types.specs.declared.value.ParamType.{ParamType}
use Rattle.tk_types.specs.declared.value.ParamType.TheVariants.{Str as string_type, Arr as array_type, Obj as object_type}
use Rattle.tk_types.specs.declared.value.ResultSpec.{ResultSpec}
use Rattle.tk_types.specs.declared.value.Value.{Value}
use Rattle.tk_types.specs.declared.value.Value.TheVariants.{Str, Arr, Obj}
use Rattle.tk_types.specs.Behaviour.{type_of}
use Rattle.tk_types.specs.Fault.{bad_name, fault, wrong_shape}
use Rattle.tk_types.specs.declared.fault.Detail.TheVariants.{Nothing}
use Rattle.tk_types.specs.Place.{Place, ◌▸◌}
use Rattle.tk_types.specs.First.{Finding, refused_if}
use Rattle.tk_names.specs.Rules.{is_dot, is_param_name, is_task_result_name, is_pipeline_result_name}
use Rattle.tk_fields.specs.Check.{Check, in_order, each, each_member, one_of, text, text_that}
use Rattle.tk_fields.specs.Get.{at, field, has, list_at, members_of, pairs_of, text_at, text_of, texts_of}
use Rattle.tk_fields.specs.Keys.{Table}
use Rattle.tk_fields.specs.Shape.{Field, required, optional, fields, field_finding, object_by, object_of, used_fields, with_role}
use Rattle.tk_fields.specs.declared.table.Role.TheVariants.{Used, Ignored, Refused}

-- a table: the keys that are used, that are passed over and that are refused
abbrev pub rows : List (List ℕ) → List (List ℕ) → List (List ℕ) → Table
rows used ignored refused = map (with_role Used) used ++ map (with_role Ignored) ignored ++ map (with_role Refused) refused

-- a field alone
abbrev pub used_field : Field → Check
used_field f place d = field_finding place d f

-- a name by a rule
abbrev pub named : (List ℕ → Bool) → Check
named rule = text_that rule bad_name

-- a value: a text, an array of texts or an object of texts
unfoldable pub value : Check
value place (string s) = text place (string s)
value place (array ds) = each text place (array ds)
value place (object ms) = each_member text place (object ms)
value place _ = Some (wrong_shape place)

unfoldable pub value_of : Data → Value
value_of (array ds) = Arr (texts_of (array ds))
value_of (object ms) = Obj (pairs_of (object ms))
value_of d = Str (text_of d)

abbrev pub value_at : List ℕ → Data → Value
value_at key d = value_of (at key d)

-- a name by a rule, and a value
unfoldable pub named_value : (List ℕ → Bool) → ℕ → Check
named_value rule number =
    used_fields (required (codes "name") (text_that rule (λ place. fault number place Nothing)) ∷ required (codes "value") value ∷ [])

-- a parameter that is given
unfoldable pub param_keys : Check
param_keys = object_by (rows (codes "name" ∷ codes "value" ∷ []) [] [])

abbrev pub param : Check
param = in_order (param_keys ∷ named_value is_param_name 8 ∷ [])

unfoldable pub param_of : Data → Param
param_of d = record { name = text_at (codes "name") d; value = value_at (codes "value") d }

abbrev pub params_at : List ℕ → Data → List Param
params_at key d = list_at param_of key d

-- a type
abbrev pub type_words : List (List ℕ)
type_words = codes "string" ∷ codes "array" ∷ codes "object" ∷ []

abbrev pub type_name : Check
type_name = one_of type_words

abbrev pub type_named : List ℕ → ParamType
type_named word = if bytes_eq word (codes "array") then array_type else if bytes_eq word (codes "object") then object_type else string_type

-- the type that is written; else object where `properties` is, else the default's, else string
abbrev pub type_unwritten : Bool → Option Value → ParamType
type_unwritten has_properties default_value = if has_properties then object_type else option_map_or type_of default_value string_type

unfoldable pub type_by : Option ParamType → Bool → Option Value → ParamType
type_by written has_properties default_value = unwrap_or written (type_unwritten has_properties default_value)

abbrev pub written_type : Data → Option ParamType
written_type d = field (λ word. type_named (text_of word)) (codes "type") d

abbrev pub default_of : Data → Option Value
default_of d = field value_of (codes "default") d

-- the type of a declared parameter, and that of a Task's result, which has no default
abbrev pub declared_type : Data → ParamType
declared_type d = type_by (written_type d) (has (codes "properties") d) (default_of d)

abbrev pub result_type : Data → ParamType
result_type d = type_by (written_type d) (has (codes "properties") d) None

abbrev pub is_object_type : ParamType → Bool
is_object_type object_type = true
is_object_type _ = false

-- the declared keys of an object, each perhaps with a type
unfoldable pub property : Check
property = object_of (record (fields (optional (codes "type") type_name ∷ [])) { ignored = codes "description" ∷ [] })

-- a key, whatever stands at it
abbrev pub key_alone : List ℕ → Option ParamType → List ℕ
key_alone key kind = key

unfoldable pub properties : Check
properties = used_field (optional (codes "properties") (each_member property))

unfoldable pub property_names : Data → List (List ℕ)
property_names d = members_of key_alone written_type (at (codes "properties") d)

-- a name by a rule, perhaps with a type
unfoldable pub typed_name : (List ℕ → Bool) → ℕ → Check
typed_name rule number =
    used_fields (required (codes "name") (text_that rule (λ place. fault number place Nothing)) ∷ optional (codes "type") type_name ∷ [])

-- the name of an object parameter has no dot
unfoldable pub dotted : ParamType → List ℕ → Place → Finding
dotted kind name place = refused_if (is_object_type kind && list_any is_dot name) (bad_name (place ▸ codes "name"))

abbrev pub object_name_without_dot : Check
object_name_without_dot place d = dotted (declared_type d) (text_at (codes "name") d) place

-- a parameter that is declared
unfoldable pub param_spec_keys : Check
param_spec_keys =
    object_by (rows (codes "name" ∷ codes "type" ∷ codes "default" ∷ codes "properties" ∷ []) (codes "description" ∷ []) (codes "enum" ∷ []))

abbrev pub default_field : Check
default_field = used_field (optional (codes "default") value)

unfoldable pub param_spec : Check
param_spec = in_order (param_spec_keys ∷ typed_name is_param_name 8 ∷ default_field ∷ properties ∷ object_name_without_dot ∷ [])

unfoldable pub param_spec_of : Data → ParamSpec
param_spec_of d = record { name = text_at (codes "name") d; kind = declared_type d; default_value = default_of d; properties = property_names d }

-- a result of a Task
unfoldable pub task_result_keys : Check
task_result_keys = object_by (rows (codes "name" ∷ codes "type" ∷ codes "properties" ∷ []) (codes "description" ∷ []) (codes "value" ∷ []))

unfoldable pub task_result : Check
task_result = in_order (task_result_keys ∷ typed_name is_task_result_name 8 ∷ properties ∷ [])

unfoldable pub task_result_of : Data → ResultSpec
task_result_of d = record { name = text_at (codes "name") d; kind = result_type d }

-- a result of a pipeline
unfoldable pub pipeline_result_keys : Check
pipeline_result_keys = object_by (rows (codes "name" ∷ codes "value" ∷ []) (codes "type" ∷ codes "description" ∷ []) [])

abbrev pub pipeline_result : Check
pipeline_result = in_order (pipeline_result_keys ∷ named_value is_pipeline_result_name 8 ∷ [])
