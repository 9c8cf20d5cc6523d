-- Substituted values are there exactly where their shapes are, and have those.
use Rattle.std.proofs.Common.{◌≡◌, ℕ, Bool, true, false, List, [], ◌∷◌, map, length, Option, Some, None, Result, Ok, Err, refl, sym, ap, ◌∙◌}
use Rattle.std.specs.Prelude.{is_ok, flat_map, option_map, option_and_then, ok_or, sum}
use Rattle.std.specs.Bool.{then_some}
use Rattle.std.specs.Result.{result_ok}
use Rattle.std.proofs.lemmas.List.Concat.{length-flat_map}
use Rattle.std.proofs.lemmas.List.Sums.{sum-map}
use Rattle.tk_types.specs.declared.value.Pair.{Pair}
use Rattle.tk_types.specs.declared.value.Param.{Param}
use Rattle.tk_types.specs.declared.value.Value.{Value}
use Rattle.tk_types.specs.declared.value.Value.TheVariants.{Str, Arr, Obj}
use Rattle.tk_types.specs.Lists.{all_ok}
use Rattle.tk_vars.specs.declared.piece.Piece.{Piece}
use Rattle.tk_vars.specs.declared.piece.Piece.TheVariants.{Plain, Ref}
use Rattle.tk_vars.specs.declared.reference.Reference.{Reference}
use Rattle.tk_vars.specs.Reading.{pieces_of}
use Rattle.tk_vars.specs.Target.{whole_of}
use Rattle.tk_bind.specs.declared.env.Env.{Env}
use Rattle.tk_bind.specs.Params.{param_in, list_in, params_in}
use Rattle.tk_bind.specs.Substitute.{reference_value, as_text, as_list, piece_text, on_ok, joined_text, whole_value, substituted, element, substituted_list, substituted_pair, substituted_value}
use Rattle.tk_shape.specs.Shape.{one, many, keyed, keys_of, shape_of}
use Rattle.tk_shape.specs.ShapeEnv.{NamedShape, shapes_of, param_shape, shape_env, reference_shape}
use Rattle.tk_shape.specs.Substituted.{is_text, list_count, has_text, have_texts, has_value, element_count, texts_count, pieces_shape, have_pairs, substituted_shape, shape_in, list_shape_in, as_list as list_shape, param_shapes}
use Rattle.tk_shape.proofs.AllThere.{is_ok-on_ok, is_ok-all, result_ok-on_ok, all_some-map, result_ok-all, all_some-tested}
use Rattle.tk_shape.proofs.References.{reference_same}

taken_text : (found : Option Value) (spelling : List ℕ) → is_ok (ok_or (option_and_then as_text found) spelling) ≡ is_text (option_map shape_of found)
taken_text None spelling = refl
taken_text (Some (Str text)) spelling = refl
taken_text (Some (Arr texts)) spelling = refl
taken_text (Some (Obj pairs)) spelling = refl

taken_list : (found : Option Value) (spelling : List ℕ) → option_map length (result_ok (ok_or (option_and_then as_list found) spelling)) ≡ list_count (option_map shape_of found)
taken_list None spelling = refl
taken_list (Some (Str text)) spelling = refl
taken_list (Some (Arr texts)) spelling = refl
taken_list (Some (Obj pairs)) spelling = refl

taken_value : (found : Option Value) (spelling : List ℕ) → option_map shape_of (result_ok (ok_or found spelling)) ≡ option_map shape_of found
taken_value None spelling = refl
taken_value (Some value) spelling = refl

-- a text, as a value and as an element
as_one : (r : Result (List ℕ) (List ℕ)) → option_map shape_of (result_ok (on_ok Str r)) ≡ then_some (is_ok r) one
as_one (Ok text) = refl
as_one (Err e) = refl

as_element : (r : Result (List ℕ) (List ℕ)) → option_map length (result_ok (on_ok (λ t. t ∷ []) r)) ≡ then_some (is_ok r) 1
as_element (Ok text) = refl
as_element (Err e) = refl

-- the shape of a list, by its length
as_many : (r : Result (List (List ℕ)) (List ℕ)) → option_map shape_of (result_ok (on_ok Arr r)) ≡ option_map many (option_map length (result_ok r))
as_many (Ok texts) = refl
as_many (Err e) = refl

-- and of an object, by its keys
as_keyed : (r : Result (List Pair) (List ℕ)) → option_map shape_of (result_ok (on_ok Obj r)) ≡ option_map keyed (option_map keys_of (result_ok r))
as_keyed (Ok pairs) = refl
as_keyed (Err e) = refl

keyed_where : (b : Bool) (keys : List (List ℕ)) → option_map keyed (then_some b keys) ≡ then_some b (keyed keys)
keyed_where true keys = refl
keyed_where false keys = refl

key_of_pair : (pair : Pair) (r : Result (List ℕ) (List ℕ)) → option_map (λ (p : Pair). p.key) (result_ok (on_ok (λ text. record pair { value = text }) r)) ≡ then_some (is_ok r) pair.key
key_of_pair pair (Ok text) = refl
key_of_pair pair (Err e) = refl

-- the length of joined lists
joined_length : (o : Option (List (List (List ℕ)))) → option_map length (option_map (flat_map (λ (ts : List (List ℕ)). ts)) o) ≡ option_map sum (option_map (map length) o)
joined_length None = refl
joined_length (Some lists) = ap Some (length-flat_map (λ (ts : List (List ℕ)). ts) lists ∙ sym (sum-map length lists))

module _ (env : Env) where
  piece_same : (piece : Piece) → is_ok (piece_text env piece) ≡ has_text (shape_env env) piece
  piece_same (Plain text) = refl
  piece_same (Ref r) = taken_text (reference_value env r) r.spelling ∙ ap is_text (reference_same env r)

  pub joined_same : (pieces : List Piece) → is_ok (joined_text env pieces) ≡ have_texts (shape_env env) pieces
  joined_same pieces = is_ok-on_ok (flat_map (λ (t : List ℕ). t)) (all_ok (map (piece_text env) pieces)) ∙ is_ok-all (piece_text env) (has_text (shape_env env)) piece_same pieces

  pub text_same : (text : List ℕ) → is_ok (substituted env text) ≡ has_value (shape_env env) text
  text_same text = joined_same (pieces_of text)

  whole_by : (found : Option Reference) (r : Result (List ℕ) (List ℕ)) (b : Bool) → is_ok r ≡ b
      → option_map shape_of (result_ok (elim found [ None ↦ on_ok Str r | Some reference ↦ ok_or (reference_value env reference) reference.spelling ]))
      ≡ elim found [ None ↦ then_some b one | Some reference ↦ reference_shape (shape_env env) reference ]
  whole_by None r b same = as_one r ∙ ap (λ c. then_some c one) same
  whole_by (Some reference) r b same = taken_value (reference_value env reference) reference.spelling ∙ reference_same env reference

  whole_same : (pieces : List Piece) → option_map shape_of (result_ok (whole_value env pieces)) ≡ pieces_shape (shape_env env) pieces
  whole_same pieces = whole_by (whole_of pieces) (joined_text env pieces) (have_texts (shape_env env) pieces) (joined_same pieces)

  spliced_by : (found : Option Reference) (r : Result (List ℕ) (List ℕ)) (b : Bool) → is_ok r ≡ b
      → option_map length (result_ok (elim found [ None ↦ on_ok (λ t. t ∷ []) r | Some reference ↦ ok_or (option_and_then as_list (reference_value env reference)) reference.spelling ]))
      ≡ elim found [ None ↦ then_some b 1 | Some reference ↦ list_count (reference_shape (shape_env env) reference) ]
  spliced_by None r b same = as_element r ∙ ap (λ c. then_some c 1) same
  spliced_by (Some reference) r b same = taken_list (reference_value env reference) reference.spelling ∙ ap list_count (reference_same env reference)

  pub element_same : (text : List ℕ) → option_map length (result_ok (element env text)) ≡ element_count (shape_env env) text
  element_same text = spliced_by (whole_of (pieces_of text)) (joined_text env (pieces_of text)) (have_texts (shape_env env) (pieces_of text)) (text_same text)

  list_same : (texts : List (List ℕ)) → option_map length (result_ok (substituted_list env texts)) ≡ texts_count (shape_env env) texts
  list_same texts =
      ap (option_map length) (result_ok-on_ok (flat_map (λ (ts : List (List ℕ)). ts)) (all_ok (map (element env) texts)))
      ∙ (joined_length (result_ok (all_ok (map (element env) texts)))
      ∙ ap (option_map sum) (ap (option_map (map length)) (result_ok-all (element env) texts) ∙ all_some-map (λ text. result_ok (element env text)) length (element_count (shape_env env)) element_same texts))

  pair_same : (pair : Pair) → option_map (λ (p : Pair). p.key) (result_ok (substituted_pair env pair)) ≡ then_some (has_value (shape_env env) pair.value) pair.key
  pair_same pair = key_of_pair pair (substituted env pair.value) ∙ ap (λ b. then_some b pair.key) (text_same pair.value)

  pairs_same : (pairs : List Pair) → option_map keys_of (result_ok (all_ok (map (substituted_pair env) pairs))) ≡ then_some (have_pairs (shape_env env) pairs) (keys_of pairs)
  pairs_same pairs =
      ap (option_map keys_of) (result_ok-all (substituted_pair env) pairs)
      ∙ (all_some-map (λ pair. result_ok (substituted_pair env pair)) (λ (p : Pair). p.key) (λ pair. then_some (has_value (shape_env env) pair.value) pair.key) pair_same pairs
      ∙ all_some-tested (λ (p : Pair). has_value (shape_env env) p.value) (λ (p : Pair). p.key) pairs)

  pub value_same : (value : Value) → option_map shape_of (result_ok (substituted_value env value)) ≡ substituted_shape (shape_env env) value
  value_same (Str text) = whole_same (pieces_of text)
  value_same (Arr texts) = as_many (substituted_list env texts) ∙ ap (option_map many) (list_same texts)
  value_same (Obj pairs) =
      as_keyed (all_ok (map (substituted_pair env) pairs))
      ∙ (ap (option_map keyed) (pairs_same pairs) ∙ keyed_where (have_pairs (shape_env env) pairs) (keys_of pairs))

  named_by : (name : List ℕ) (found : Option Value) → option_map param_shape (option_map (λ value. let p : Param = record { name = name; value = value } in p) found) ≡ option_map (λ shape. let s : NamedShape = record { name = name; shape = shape } in s) (option_map shape_of found)
  named_by name None = refl
  named_by name (Some value) = refl

  pub param_same : (p : Param) → option_map param_shape (param_in env p) ≡ shape_in (shape_env env) p
  param_same p = named_by p.name (result_ok (substituted_value env p.value)) ∙ ap (option_map (λ shape. let s : NamedShape = record { name = p.name; shape = shape } in s)) (value_same p.value)

  pub params_same : (params : List Param) → option_map shapes_of (params_in env params) ≡ param_shapes (shape_env env) params
  params_same params = all_some-map (param_in env) param_shape (shape_in (shape_env env)) param_same params

list_by : (o : Option Param) → option_map param_shape (option_and_then (λ (p : Param). option_map (λ texts. record p { value = Arr texts }) (as_list p.value)) o) ≡ option_and_then list_shape (option_map param_shape o)
list_by None = refl
list_by (Some p) = listed p.name p.value
  where
    listed : (name : List ℕ) (value : Value) → option_map param_shape (option_map (λ texts. let q : Param = record { name = name; value = Arr texts } in q) (as_list value)) ≡ list_shape (let s : NamedShape = record { name = name; shape = shape_of value } in s)
    listed name (Str text) = refl
    listed name (Arr texts) = refl
    listed name (Obj pairs) = refl

-- a parameter of a matrix
pub list_in_same : (env : Env) (p : Param) → option_map param_shape (list_in env p) ≡ list_shape_in (shape_env env) p
list_in_same env p = list_by (param_in env p) ∙ ap (option_and_then list_shape) (param_same env p)
