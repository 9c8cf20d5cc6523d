-- What a result file says by its type (Tekton, Tasks, Emitting Results).
use Rattle.std.specs.Prelude.{◌≡◌, ℕ, List, [], ◌∷◌, map, Option, Some, None, Result, Err, if◌then◌else◌, ok_or, option_and_then, option_map}
use Rattle.serde_json.specs.Data.{Data, Items, no_items, item, Members, no_members, member}
use Rattle.serde_json.specs.Find.{as_array, as_object, as_str}
use Rattle.tk_types.specs.declared.value.Pair.{Pair}
use Rattle.tk_types.specs.declared.value.ParamType.{ParamType}
use Rattle.tk_types.specs.declared.value.ParamType.TheVariants.{Str as string, Arr as array, Obj as object}
use Rattle.tk_types.specs.declared.value.Value.{Value}
use Rattle.tk_types.specs.declared.value.Value.TheVariants.{Str, Arr, Obj}
use Rattle.tk_types.specs.Json.{json_of, text_of}
use Rattle.tk_types.specs.Lists.{all_some}
use Rattle.tk_results.specs.declared.refusal.ReadError.{ReadError}
use Rattle.tk_results.specs.declared.refusal.ReadError.TheVariants.{BadText, BadList, BadObject, Memory}

-- the elements of an array in order, and the members of an object in the order of their keys
abbrev pub elements : Items → List Data
elements no_items = []
elements (item d ds) = d ∷ elements ds

abbrev pub members : Members → List (List ℕ × Data)
members no_members = []
members (member k d ms) = (k, d) ∷ members ms

-- the texts, if all are strings
abbrev pub texts_of : List Data → Option (List (List ℕ))
texts_of ds = all_some (map as_str ds)

-- the pairs, if all values are strings
abbrev pub pair_of : List ℕ × Data → Option Pair
pair_of m = option_map (λ (text : List ℕ). record { key = m.0; value = text }) (as_str m.1)

abbrev pub pairs_of : List (List ℕ × Data) → Option (List Pair)
pairs_of ms = all_some (map pair_of ms)

-- an array of strings, and an object of strings
abbrev pub list_of : Data → Option (List (List ℕ))
list_of d = option_and_then (λ ds. texts_of (elements ds)) (as_array d)

abbrev pub object_of : Data → Option (List Pair)
object_of d = option_and_then (λ ms. pairs_of (members ms)) (as_object d)

-- the value of a file's bytes by the result's type: all bytes of a text, or a JSON array or object of strings
abbrev pub value_of : ParamType → List ℕ → Option Value
value_of string bytes = option_map Str (text_of bytes)
value_of array bytes = option_map Arr (option_and_then list_of (json_of bytes))
value_of object bytes = option_map Obj (option_and_then object_of (json_of bytes))

-- why a file that is no value of its type is refused
abbrev pub fault_of : ParamType → ReadError
fault_of string = BadText
fault_of array = BadList
fault_of object = BadObject

-- the value, or why there is none
abbrev pub result_of : ParamType → List ℕ → Result Value ReadError
result_of kind bytes = ok_or (value_of kind bytes) (fault_of kind)

-- an error is the one that is due; memory may run out at any time
abbrev pub IsReadRefusal : Result Value ReadError → ReadError → Type 0
IsReadRefusal due Memory = Unit {0}
IsReadRefusal due BadText = due ≡ Err BadText
IsReadRefusal due BadList = due ≡ Err BadList
IsReadRefusal due BadObject = due ≡ Err BadObject
