-- A selector takes something of a value exactly where it takes something of its shape, and then of that shape.
use Rattle.std.proofs.Common.{◌≡◌, ℕ, Bool, true, false, cond, ◌||◌, List, [], ◌∷◌, map, length, Option, Some, None, is_some, find, inl, inr, refl, sym, ap, ◌∙◌}
use Rattle.std.specs.Prelude.{bytes_eq, nat_lt, option_map, option_and_then, option_copied, slice_get}
use Rattle.std.specs.Bool.{then_some}
use Rattle.std.specs.List.{list_any}
use Rattle.std.proofs.lemmas.Bool.{lt-ltb, le-ltb}
use Rattle.std.proofs.lemmas.Option.{slice_get_cases}
use Rattle.tk_types.specs.declared.value.Pair.{Pair}
use Rattle.tk_types.specs.declared.value.ParamType.{ParamType}
use Rattle.tk_types.specs.declared.value.ParamType.TheVariants.{Str as string, Arr as array, Obj as object}
use Rattle.tk_types.specs.declared.value.Value.{Value}
use Rattle.tk_types.specs.declared.value.Value.TheVariants.{Str, Arr, Obj}
use Rattle.tk_types.specs.Value.{text_at, is_of_type}
use Rattle.tk_vars.specs.declared.part.Part.{Part}
use Rattle.tk_vars.specs.declared.part.Part.TheVariants.{Name, Index, Star}
use Rattle.tk_bind.specs.Selector.{selected}
use denote.Ref.{Bor}
use Rattle.tk_shape.specs.Shape.{one, keys_of, has_key, shape_of, is_of_kind, selected_shape}

-- the shape of an optional text
text_shape : (o : Option (List ℕ)) → option_map shape_of (option_map Str o) ≡ then_some (is_some o) one
text_shape None = refl
text_shape (Some text) = refl

is_some-slice_get : {X : Type 0} (xs : List X) (i : ℕ) → is_some (slice_get xs i) ≡ nat_lt i (length xs)
is_some-slice_get xs i =
    elim (slice_get_cases xs i).1 [
      | inl within ↦ ap is_some within.2 ∙ sym (lt-ltb i (length xs) within.1)
      | inr past ↦ ap is_some past.1 ∙ sym (le-ltb i (length xs) past.0)
    ]

is_some-map : {X Y : Type 0} (f : X → Y) (o : Option X) → is_some (option_map f o) ≡ is_some o
is_some-map f None = refl
is_some-map f (Some x) = refl

is_some-find : {X : Type 0} (test : X → Bool) (xs : List X) → is_some (find test xs) ≡ list_any test xs
is_some-find test [] = refl
is_some-find test (x ∷ xs) = elim (test x) as (λ b. is_some (cond b (Some x) (find test xs)) ≡ (b || list_any test xs)) [ true ↦ refl | false ↦ is_some-find test xs ]

list_any-map : {X Y : Type 0} (test : Y → Bool) (f : X → Y) (xs : List X) → list_any (λ x. test (f x)) xs ≡ list_any test (map f xs)
list_any-map test f [] = refl
list_any-map test f (x ∷ xs) = ap (λ b. test (f x) || b) (list_any-map test f xs)

-- a text is there under the keys alone
pub is_some-text_at : (key : List ℕ) (pairs : List Pair) → is_some (text_at key pairs) ≡ has_key key (keys_of pairs)
is_some-text_at key pairs =
    is_some-map (λ (p : Pair). p.value) (find (λ (p : Pair). bytes_eq p.key key) pairs)
    ∙ (is_some-find (λ (p : Pair). bytes_eq p.key key) pairs ∙ list_any-map (λ k. bytes_eq k key) (λ (p : Pair). p.key) pairs)

-- the shape of the text under a key
pub text_at_shape : (key : List ℕ) (pairs : List Pair) → option_map shape_of (option_map Str (text_at key pairs)) ≡ then_some (has_key key (keys_of pairs)) one
text_at_shape key pairs = text_shape (text_at key pairs) ∙ ap (λ b. then_some b one) (is_some-text_at key pairs)

pub selected_same : (selector : List Part) (value : Value) → option_map shape_of (selected selector value) ≡ selected_shape selector (shape_of value)
selected_same (Index i ∷ []) (Arr texts) = text_shape (slice_get texts i) ∙ ap (λ b. then_some b one) (is_some-slice_get texts i)
selected_same (Name key ∷ []) (Obj pairs) = text_at_shape key pairs
selected_same [] (Str text) = refl
selected_same [] (Arr texts) = refl
selected_same [] (Obj pairs) = refl
selected_same (Index i ∷ []) (Str text) = refl
selected_same (Index i ∷ []) (Obj pairs) = refl
selected_same (Name key ∷ []) (Str text) = refl
selected_same (Name key ∷ []) (Arr texts) = refl
selected_same (Star ∷ []) (Str text) = refl
selected_same (Star ∷ []) (Arr texts) = refl
selected_same (Star ∷ []) (Obj pairs) = refl
selected_same (Index i ∷ q ∷ ps) (Str text) = refl
selected_same (Index i ∷ q ∷ ps) (Arr texts) = refl
selected_same (Index i ∷ q ∷ ps) (Obj pairs) = refl
selected_same (Name key ∷ q ∷ ps) (Str text) = refl
selected_same (Name key ∷ q ∷ ps) (Arr texts) = refl
selected_same (Name key ∷ q ∷ ps) (Obj pairs) = refl
selected_same (Star ∷ q ∷ ps) (Str text) = refl
selected_same (Star ∷ q ∷ ps) (Arr texts) = refl
selected_same (Star ∷ q ∷ ps) (Obj pairs) = refl

-- what a selector takes of what may be there
pub selected_if : (selector : List Part) (found : Option Value) → option_map shape_of (option_and_then (selected selector) found) ≡ option_and_then (selected_shape selector) (option_map shape_of found)
selected_if selector None = refl
selected_if selector (Some value) = selected_same selector value

-- a value has the type that its shape has
pub kind_same : (kind : ParamType) (value : Value) → is_of_type kind value ≡ is_of_kind kind (shape_of value)
kind_same string (Str text) = refl
kind_same string (Arr texts) = refl
kind_same string (Obj pairs) = refl
kind_same array (Str text) = refl
kind_same array (Arr texts) = refl
kind_same array (Obj pairs) = refl
kind_same object (Str text) = refl
kind_same object (Arr texts) = refl
kind_same object (Obj pairs) = refl

-- a pair is found by its key
pub found_key : (key : List ℕ) (pairs : List Pair) (found : Option (Bor Pair)) → option_copied found ≡ find (λ (p : Pair). bytes_eq p.key key) pairs → is_some found ≡ has_key key (keys_of pairs)
found_key key pairs found is =
    sym (is_some-map (λ (p : Bor Pair). p.now) found)
    ∙ (ap is_some is ∙ (is_some-find (λ (p : Pair). bytes_eq p.key key) pairs ∙ list_any-map (λ k. bytes_eq k key) (λ (p : Pair). p.key) pairs))
