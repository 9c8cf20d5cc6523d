-- What can be taken of a value hangs on its shape: its type, the length of a list, the keys of an object.
use Rattle.std.specs.Prelude.{ℕ, Bool, true, false, List, [], ◌∷◌, map, length, nat_lt, Option, Some, None, bytes_eq}
use Rattle.std.specs.Bool.{then_some}
use Rattle.std.specs.List.{list_any}
use Rattle.tk_types.specs.declared.value.Pair.{Pair}
use Rattle.tk_types.specs.declared.value.ParamType.{ParamType}
use Rattle.tk_types.specs.declared.value.ParamType.TheVariants.{Str as string, Arr as array, Obj as object}
use Rattle.tk_types.specs.declared.value.Value.{Value}
use Rattle.tk_types.specs.declared.value.Value.TheVariants.{Str, Arr, Obj}
use Rattle.tk_vars.specs.declared.part.Part.{Part}
use Rattle.tk_vars.specs.declared.part.Part.TheVariants.{Name, Index, Star}

pub data Shape : Type 0 where
  -- one text
  one : Shape
  -- a list of so many texts
  many : ℕ → Shape
  -- an object with these keys
  keyed : List (List ℕ) → Shape

-- the keys of pairs
abbrev pub keys_of : List Pair → List (List ℕ)
keys_of pairs = map (λ (p : Pair). p.key) pairs

-- the key is among these
abbrev pub has_key : List ℕ → List (List ℕ) → Bool
has_key key keys = list_any (λ k. bytes_eq k key) keys

-- an object of the shape has the key
abbrev pub has_key_of : List ℕ → Shape → Bool
has_key_of key (keyed keys) = has_key key keys
has_key_of key shape = false

-- the shape of a value
abbrev pub shape_of : Value → Shape
shape_of (Str text) = one
shape_of (Arr texts) = many (length texts)
shape_of (Obj pairs) = keyed (keys_of pairs)

-- the type of the values of a shape
abbrev pub kind_of : Shape → ParamType
kind_of one = string
kind_of (many count) = array
kind_of (keyed keys) = object

-- values of the shape have this type
abbrev pub is_of_kind : ParamType → Shape → Bool
is_of_kind string one = true
is_of_kind array (many count) = true
is_of_kind object (keyed keys) = true
is_of_kind _ _ = false

-- the shape of what a selector takes of a value of this shape, if it fits that
abbrev pub selected_shape : List Part → Shape → Option Shape
selected_shape [] one = Some one
selected_shape (Index i ∷ []) (many count) = then_some (nat_lt i count) one
selected_shape (Name key ∷ []) (keyed keys) = then_some (has_key key keys) one
selected_shape (Star ∷ []) (many count) = Some (many count)
selected_shape (Star ∷ []) (keyed keys) = Some (keyed keys)
selected_shape _ _ = None
