-- What a report prints for a result's value: compact JSON (Tekton, Tasks, Emitting Results).
use Rattle.std.specs.Prelude.{ℕ, List, map, fold}
use Rattle.serde_json.specs.Data.{Data, string, array, object, Members, no_members, put}
use Rattle.serde_json.specs.View.{items_of}
use Rattle.serde_json.specs.Written.{compact_text}
use Rattle.tk_types.specs.declared.value.Pair.{Pair}
use Rattle.tk_types.specs.declared.value.Value.{Value}
use Rattle.tk_types.specs.declared.value.Value.TheVariants.{Str, Arr, Obj}

-- the members with one more pair, in its place by the keys' bytes; a later pair of the same key counts
abbrev pub with_pair : Members → Pair → Members
with_pair ms pair = put pair.key (string pair.value) ms

abbrev pub members_of : List Pair → Members
members_of pairs = fold with_pair no_members pairs

-- a value as JSON: a string, an array of strings, or an object of strings
abbrev pub data_of : Value → Data
data_of (Str text) = string text
data_of (Arr texts) = array (items_of (map string texts))
data_of (Obj pairs) = object (members_of pairs)

-- its text with no space
abbrev pub json_text : Value → List ℕ
json_text value = compact_text (data_of value)
