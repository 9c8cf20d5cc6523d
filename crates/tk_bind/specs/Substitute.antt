-- The values of texts in an environment. An error is the first reference without a value, as written.
use Rattle.std.specs.Prelude.{ℕ, ◌&&◌, List, [], ◌∷◌, map, Option, Some, None, Result, Ok, Err, option_map, option_and_then, ok_or, find, bytes_eq, flat_map}
use Rattle.tk_types.specs.declared.value.Pair.{Pair}
use Rattle.tk_types.specs.declared.value.Value.{Value}
use Rattle.tk_types.specs.declared.value.Value.TheVariants.{Str, Arr, Obj}
use Rattle.tk_types.specs.Lists.{all_ok}
use Rattle.tk_types.specs.Value.{text_at, value_named}
use Rattle.tk_vars.specs.declared.reference.Reference.{Reference}
use Rattle.tk_vars.specs.declared.piece.Piece.{Piece}
use Rattle.tk_vars.specs.declared.piece.Piece.TheVariants.{Plain, Ref}
use Rattle.tk_vars.specs.Reading.{pieces_of}
use Rattle.tk_vars.specs.Target.{Target, param, result, word, target_of, whole_of}
use Rattle.tk_bind.specs.declared.env.Env.{Env}
use Rattle.tk_bind.specs.declared.env.Given.{Given}
use Rattle.tk_bind.specs.Selector.{selected}

-- the value of a result of a task
abbrev pub result_named : List ℕ → List ℕ → List Given → Option Value
result_named task name results = option_map (λ (g : Given). g.value) (find (λ (g : Given). bytes_eq g.task task && bytes_eq g.name name) results)

-- the value that a reference takes
abbrev pub target_value : Env → Target → Option Value
target_value env (param name selector) = option_and_then (selected selector) (value_named name env.params)
target_value env (result task name selector) = option_and_then (selected selector) (result_named task name env.results)
target_value env (word key) = option_map Str (text_at key env.words)

abbrev pub reference_value : Env → Reference → Option Value
reference_value env reference = target_value env (target_of reference.parts)

-- a value where a text alone is due, and where a list alone is due
abbrev pub as_text : Value → Option (List ℕ)
as_text (Str text) = Some text
as_text value = None

abbrev pub as_list : Value → Option (List (List ℕ))
as_list (Arr texts) = Some texts
as_list value = None

-- the text of a piece
abbrev pub piece_text : Env → Piece → Result (List ℕ) (List ℕ)
piece_text env (Plain text) = Ok text
piece_text env (Ref reference) = ok_or (option_and_then as_text (reference_value env reference)) reference.spelling

-- a function of a value, or the error
abbrev pub on_ok : {T U E : Type 0} → (T → U) → Result T E → Result U E
on_ok f (Ok x) = Ok (f x)
on_ok f (Err e) = Err e

-- The value of a text is a function of its pieces, so what is put in isn't read again.

-- the texts of the pieces, joined
abbrev pub joined_text : Env → List Piece → Result (List ℕ) (List ℕ)
joined_text env pieces = on_ok (flat_map (λ (t : List ℕ). t)) (all_ok (map (piece_text env) pieces))

-- the texts that an element of a list gives: a whole `[*]` is spliced
abbrev pub spliced_texts : Env → List Piece → Result (List (List ℕ)) (List ℕ)
spliced_texts env pieces =
    elim (whole_of pieces) [
      | None ↦ on_ok (λ t. t ∷ []) (joined_text env pieces)
      | Some reference ↦ ok_or (option_and_then as_list (reference_value env reference)) reference.spelling
    ]

-- the value that a text gives as a value: a whole `[*]` gives the list or object
abbrev pub whole_value : Env → List Piece → Result Value (List ℕ)
whole_value env pieces =
    elim (whole_of pieces) [
      | None ↦ on_ok Str (joined_text env pieces)
      | Some reference ↦ ok_or (reference_value env reference) reference.spelling
    ]

-- a text with its references substituted
abbrev pub substituted : Env → List ℕ → Result (List ℕ) (List ℕ)
substituted env text = joined_text env (pieces_of text)

-- a list with the references of its elements substituted
abbrev pub element : Env → List ℕ → Result (List (List ℕ)) (List ℕ)
element env text = spliced_texts env (pieces_of text)

abbrev pub substituted_list : Env → List (List ℕ) → Result (List (List ℕ)) (List ℕ)
substituted_list env texts = on_ok (flat_map (λ (ts : List (List ℕ)). ts)) (all_ok (map (element env) texts))

-- a pair with the references of its text substituted
abbrev pub substituted_pair : Env → Pair → Result Pair (List ℕ)
substituted_pair env pair = on_ok (λ text. record pair { value = text }) (substituted env pair.value)

-- a value with its references substituted
abbrev pub substituted_value : Env → Value → Result Value (List ℕ)
substituted_value env (Str text) = whole_value env (pieces_of text)
substituted_value env (Arr texts) = on_ok Arr (substituted_list env texts)
substituted_value env (Obj pairs) = on_ok Obj (all_ok (map (substituted_pair env) pairs))
