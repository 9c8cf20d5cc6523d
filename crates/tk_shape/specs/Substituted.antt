-- The shapes of values with their references substituted, by the shapes alone of what the references take.
use Rattle.std.specs.Prelude.{ℕ, Bool, true, false, List, map, Option, Some, None, option_map, option_and_then, sum}
use Rattle.std.specs.Bool.{then_some}
use Rattle.std.specs.List.{list_all}
use Rattle.tk_types.specs.declared.value.Pair.{Pair}
use Rattle.tk_types.specs.declared.value.Param.{Param}
use Rattle.tk_types.specs.declared.value.ParamType.TheVariants.{Arr as array}
use Rattle.tk_types.specs.declared.value.Value.{Value}
use Rattle.tk_types.specs.declared.value.Value.TheVariants.{Str, Arr, Obj}
use Rattle.tk_types.specs.Lists.{all_some}
use Rattle.tk_vars.specs.declared.piece.Piece.{Piece}
use Rattle.tk_vars.specs.declared.piece.Piece.TheVariants.{Plain, Ref}
use Rattle.tk_vars.specs.Reading.{pieces_of}
use Rattle.tk_vars.specs.Target.{whole_of}
use Rattle.tk_shape.specs.Shape.{Shape, one, many, keyed, keys_of, is_of_kind}
use Rattle.tk_shape.specs.ShapeEnv.{ShapeEnv, NamedShape, reference_shape}

-- it is the shape of a text, and how long the list of a shape is
abbrev pub is_text : Option Shape → Bool
is_text (Some one) = true
is_text shape = false

abbrev pub list_count : Option Shape → Option ℕ
list_count (Some (many count)) = Some count
list_count shape = None

-- the piece has a text, each piece has one, and a text has a value
abbrev pub has_text : ShapeEnv → Piece → Bool
has_text env (Plain text) = true
has_text env (Ref reference) = is_text (reference_shape env reference)

abbrev pub have_texts : ShapeEnv → List Piece → Bool
have_texts env pieces = list_all (has_text env) pieces

abbrev pub has_value : ShapeEnv → List ℕ → Bool
has_value env text = have_texts env (pieces_of text)

-- how many texts an element of a list gives, if it has a value
abbrev pub pieces_count : ShapeEnv → List Piece → Option ℕ
pieces_count env pieces =
    elim (whole_of pieces) [
      | None ↦ then_some (have_texts env pieces) 1
      | Some reference ↦ list_count (reference_shape env reference)
    ]

abbrev pub element_count : ShapeEnv → List ℕ → Option ℕ
element_count env text = pieces_count env (pieces_of text)

-- and how many the elements of a list give
abbrev pub texts_count : ShapeEnv → List (List ℕ) → Option ℕ
texts_count env texts = option_map sum (all_some (map (element_count env) texts))

-- the shape of the value that a text gives as a value
abbrev pub pieces_shape : ShapeEnv → List Piece → Option Shape
pieces_shape env pieces =
    elim (whole_of pieces) [
      | None ↦ then_some (have_texts env pieces) one
      | Some reference ↦ reference_shape env reference
    ]

-- the text of each pair has a value
abbrev pub have_pairs : ShapeEnv → List Pair → Bool
have_pairs env pairs = list_all (λ (p : Pair). has_value env p.value) pairs

-- the shape of an object with its texts substituted, and of a value with its references substituted, if each has a value
abbrev pub pairs_shape : ShapeEnv → List Pair → Option Shape
pairs_shape env pairs = then_some (have_pairs env pairs) (keyed (keys_of pairs))

abbrev pub substituted_shape : ShapeEnv → Value → Option Shape
substituted_shape env (Str text) = pieces_shape env (pieces_of text)
substituted_shape env (Arr texts) = option_map many (texts_count env texts)
substituted_shape env (Obj pairs) = pairs_shape env pairs

-- and of a parameter, and of parameters
abbrev pub shape_in : ShapeEnv → Param → Option NamedShape
shape_in env p = option_map (λ shape. record { name = p.name; shape = shape }) (substituted_shape env p.value)

-- the shape of a parameter of a matrix, whose value must be a list
abbrev pub as_list : NamedShape → Option NamedShape
as_list s = then_some (is_of_kind array s.shape) s

abbrev pub list_shape_in : ShapeEnv → Param → Option NamedShape
list_shape_in env p = option_and_then as_list (shape_in env p)

abbrev pub param_shapes : ShapeEnv → List Param → Option (List NamedShape)
param_shapes env params = all_some (map (shape_in env) params)
