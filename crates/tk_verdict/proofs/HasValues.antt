-- Where a matrix has a value, each reference in it has one. So it has the same in every environment that sees more.
use Rattle.std.proofs.Common.{◌≡◌, ℕ, Bool, true, false, cond, List, [], ◌∷◌, ◌++◌, map, Option, Some, None, Result, Ok, Err, refl, sym, ap, ◌∙◌}
use Rattle.std.specs.Prelude.{flat_map, find, ok_or, option_map, option_and_then, bytes_eq}
use Rattle.std.specs.List.{AllByRecursion}
use Rattle.std.specs.Option.{option_or}
use Rattle.std.specs.Result.{result_ok}
use Rattle.std.proofs.lemmas.List.Folds.{find-append}
use Rattle.tk_types.specs.declared.value.Pair.{Pair}
use Rattle.tk_types.specs.declared.value.Param.{Param}
use Rattle.tk_types.specs.declared.value.Value.{Value}
use Rattle.tk_types.specs.declared.value.Value.TheVariants.{Str, Arr, Obj}
use Rattle.tk_types.specs.declared.task.Matrix.{Matrix}
use Rattle.tk_types.specs.Lists.{all_ok, all_some}
use Rattle.tk_types.specs.Value.{value_texts, text_at}
use Rattle.tk_vars.specs.declared.piece.Piece.{Piece}
use Rattle.tk_vars.specs.declared.piece.Piece.TheVariants.{Plain, Ref}
use Rattle.tk_vars.specs.Reading.{pieces_of, ends_with_star}
use Rattle.tk_vars.specs.Target.{Target, param, result, word, target_of, whole_of}
use Rattle.tk_graph.specs.Results.{params_texts, matrix_texts}
use Rattle.tk_bind.specs.declared.env.Env.{Env}
use Rattle.tk_bind.specs.declared.env.Given.{Given}
use Rattle.tk_bind.specs.Substitute.{target_value, reference_value, as_text, as_list, piece_text, on_ok, joined_text, spliced_texts, whole_value, substituted, element, substituted_list, substituted_pair, substituted_value}
use Rattle.tk_bind.specs.Params.{param_in, list_in, params_in, matrix_in}
use Rattle.tk_verdict.proofs.Elements.{each_implies}
use Rattle.tk_verdict.proofs.SameValues.{SameText, SamePiece, matrix_same}

-- there is a value

abbrev IsThere : {X : Type 0} → Option X → Type 0
IsThere {X} o = (x : X) × (o ≡ Some x)

abbrev IsFine : {X E : Type 0} → Result X E → Type 0
IsFine {X} r = (x : X) × (r ≡ Ok x)

fine_parts : {T U E : Type 0} (f : T → U) (r : Result T E) → IsFine (on_ok f r) → IsFine r
fine_parts f (Ok x) fine = (x, refl)
fine_parts f (Err e) fine = let is = fine.1 in cc (is)

fine_there : {T E : Type 0} (o : Option T) (e : E) → IsFine (ok_or o e) → IsThere o
fine_there None e fine = let is = fine.1 in cc (is)
fine_there (Some x) e fine = (x, refl)

then_there : {T U : Type 0} (f : T → Option U) (o : Option T) → IsThere (option_and_then f o) → IsThere o
then_there f None there = let is = there.1 in cc (is)
then_there f (Some x) there = (x, refl)

map_there : {T U : Type 0} (f : T → U) (o : Option T) → IsThere (option_map f o) → IsThere o
map_there f None there = let is = there.1 in cc (is)
map_there f (Some x) there = (x, refl)

ok_there : {T E : Type 0} (r : Result T E) → IsThere (result_ok r) → IsFine r
ok_there (Ok x) there = (x, refl)
ok_there (Err e) there = let is = there.1 in cc (is)

first_ok : {T E : Type 0} (x : T) (r : Result (List T) E) → IsFine {X = List T} {E = E} (elim r [ Ok xs ↦ Ok (x ∷ xs) | Err e ↦ Err e ]) → IsFine r
first_ok x (Ok xs) fine = (xs, refl)
first_ok x (Err e) fine = let is = fine.1 in cc (is)

ok_split : {T E : Type 0} (r : Result T E) (rs : List (Result T E)) → IsFine (all_ok (r ∷ rs)) → IsFine r × IsFine (all_ok rs)
ok_split (Ok x) rs fine = ((x, refl), first_ok x (all_ok rs) fine)
ok_split (Err e) rs fine = let is = fine.1 in cc (is)

first_some : {T : Type 0} (x : T) (o : Option (List T)) → IsThere {X = List T} (elim o [ None ↦ None | Some xs ↦ Some (x ∷ xs) ]) → IsThere o
first_some x None there = let is = there.1 in cc (is)
first_some x (Some xs) there = (xs, refl)

some_split : {T : Type 0} (o : Option T) (os : List (Option T)) → IsThere (all_some (o ∷ os)) → IsThere o × IsThere (all_some os)
some_split None os there = let is = there.1 in cc (is)
some_split (Some x) os there = ((x, refl), first_some x (all_some os) there)

each_ok : {X T E : Type 0} (f : X → Result T E) (xs : List X) → IsFine (all_ok (map f xs)) → AllByRecursion (λ x. IsFine (f x)) xs
each_ok f [] fine = tt
each_ok f (x ∷ xs) fine = let parts = ok_split (f x) (map f xs) fine in (parts.0, each_ok f xs parts.1)

each_some : {X T : Type 0} (f : X → Option T) (xs : List X) → IsThere (all_some (map f xs)) → AllByRecursion (λ x. IsThere (f x)) xs
each_some f [] there = tt
each_some f (x ∷ xs) there = let parts = some_split (f x) (map f xs) there in (parts.0, each_some f xs parts.1)

-- texts of what is listed

pub append_each : {X : Type 0} (P : X → Type 0) (xs ys : List X) → AllByRecursion P xs → AllByRecursion P ys → AllByRecursion P (xs ++ ys)
append_each P [] ys front back = back
append_each P (x ∷ xs) ys front back = (front.0, append_each P xs ys front.1 back)

flat_each : {X Y : Type 0} (P : Y → Type 0) (f : X → List Y) (xs : List X) → AllByRecursion (λ x. AllByRecursion P (f x)) xs → AllByRecursion P (flat_map f xs)
flat_each P f [] all = tt
flat_each P f (x ∷ xs) all = append_each P (f x) (flat_map f xs) all.0 (flat_each P f xs all.1)

map_each : {X Y : Type 0} (P : Y → Type 0) (f : X → Y) (xs : List X) → AllByRecursion (λ x. P (f x)) xs → AllByRecursion P (map f xs)
map_each P f [] all = tt
map_each P f (x ∷ xs) all = (all.0, map_each P f xs all.1)

-- each reference has a value
module _ (env : Env) where
  abbrev HasValue : Piece → Type 0
  HasValue (Plain text) = Unit {0}
  HasValue (Ref r) = IsThere (reference_value env r)

  abbrev HasValues : List ℕ → Type 0
  HasValues text = AllByRecursion HasValue (pieces_of text)

  piece_value : (piece : Piece) → IsFine (piece_text env piece) → HasValue piece
  piece_value (Plain text) fine = tt
  piece_value (Ref r) fine = then_there as_text (reference_value env r) (fine_there (option_and_then as_text (reference_value env r)) r.spelling fine)

  joined_values : (pieces : List Piece) → IsFine (joined_text env pieces) → AllByRecursion HasValue pieces
  joined_values pieces fine =
      each_implies (λ p. IsFine (piece_text env p)) HasValue piece_value pieces
      (each_ok (piece_text env) pieces (fine_parts (flat_map (λ (t : List ℕ). t)) (all_ok (map (piece_text env) pieces)) fine))

  -- a whole `[*]` is the only piece
  star_values : {T : Type 0} (f : Option Value → Option T) (pieces : List Piece) (joined : Result T (List ℕ)) → ((o : Option Value) → IsThere (f o) → IsThere o)
      → (IsFine joined → AllByRecursion HasValue pieces)
      → IsFine (elim (whole_of pieces) [ None ↦ joined | Some reference ↦ ok_or (f (reference_value env reference)) reference.spelling ]) → AllByRecursion HasValue pieces
  star_values f [] joined there if_joined fine = tt
  star_values f (Plain text ∷ pieces) joined there if_joined fine = if_joined fine
  star_values f (Ref r ∷ p ∷ pieces) joined there if_joined fine = if_joined fine
  star_values {T} f (Ref r ∷ []) joined there if_joined fine = by_star (ends_with_star r.parts) fine
    where
      by_star : (star : Bool) → IsFine {X = T} {E = List ℕ} (elim (cond star (Some r) None) [ None ↦ joined | Some reference ↦ ok_or (f (reference_value env reference)) reference.spelling ]) → AllByRecursion HasValue (Ref r ∷ [])
      by_star true whole = (there (reference_value env r) (fine_there (f (reference_value env r)) r.spelling whole), tt)
      by_star false whole = if_joined whole

  spliced_values : (pieces : List Piece) → IsFine (spliced_texts env pieces) → AllByRecursion HasValue pieces
  spliced_values pieces fine =
      star_values (option_and_then as_list) pieces (on_ok (λ t. t ∷ []) (joined_text env pieces)) (then_there as_list)
      (λ ok. joined_values pieces (fine_parts (λ (t : List ℕ). t ∷ []) (joined_text env pieces) ok)) fine

  whole_values : (pieces : List Piece) → IsFine (whole_value env pieces) → AllByRecursion HasValue pieces
  whole_values pieces fine =
      star_values (λ (o : Option Value). o) pieces (on_ok Str (joined_text env pieces)) (λ o there. there)
      (λ ok. joined_values pieces (fine_parts Str (joined_text env pieces) ok)) fine

  list_values : (texts : List (List ℕ)) → IsFine (substituted_list env texts) → AllByRecursion HasValues texts
  list_values texts fine =
      each_implies (λ t. IsFine (element env t)) HasValues (λ t ok. spliced_values (pieces_of t) ok) texts
      (each_ok (element env) texts (fine_parts (flat_map (λ (ts : List (List ℕ)). ts)) (all_ok (map (element env) texts)) fine))

  pair_values : (pair : Pair) → IsFine (substituted_pair env pair) → HasValues pair.value
  pair_values pair fine = joined_values (pieces_of pair.value) (fine_parts (λ (text : List ℕ). record pair { value = text }) (substituted env pair.value) fine)

  value_values : (value : Value) → IsFine (substituted_value env value) → AllByRecursion HasValues (value_texts value)
  value_values (Str text) fine = (whole_values (pieces_of text) fine, tt)
  value_values (Arr texts) fine = list_values texts (fine_parts Arr (substituted_list env texts) fine)
  value_values (Obj pairs) fine =
      map_each HasValues (λ (p : Pair). p.value) pairs
      (each_implies (λ p. IsFine (substituted_pair env p)) (λ (p : Pair). HasValues p.value) pair_values pairs
      (each_ok (substituted_pair env) pairs (fine_parts Obj (all_ok (map (substituted_pair env) pairs)) fine)))

  param_values : (p : Param) → IsThere (param_in env p) → AllByRecursion HasValues (value_texts p.value)
  param_values p there =
      value_values p.value (ok_there (substituted_value env p.value) (map_there (λ (value : Value). record p { value = value }) (result_ok (substituted_value env p.value)) there))

  list_in_values : (p : Param) → IsThere (list_in env p) → AllByRecursion HasValues (value_texts p.value)
  list_in_values p there =
      param_values p (then_there (λ (q : Param). option_map (λ texts. record q { value = Arr texts }) (as_list q.value)) (param_in env p) there)

  params_values : (params : List Param) → IsThere (params_in env params) → AllByRecursion HasValues (params_texts params)
  params_values params there =
      flat_each HasValues (λ (p : Param). value_texts p.value) params
      (each_implies (λ p. IsThere (param_in env p)) (λ (p : Param). AllByRecursion HasValues (value_texts p.value)) param_values params (each_some (param_in env) params there))

  lists_values : (params : List Param) → IsThere (all_some (map (list_in env) params)) → AllByRecursion HasValues (params_texts params)
  lists_values params there =
      flat_each HasValues (λ (p : Param). value_texts p.value) params
      (each_implies (λ p. IsThere (list_in env p)) (λ (p : Param). AllByRecursion HasValues (value_texts p.value)) list_in_values params (each_some (list_in env) params there))

  entries_values : (entries : List (List Param)) → IsThere (all_some (map (params_in env) entries)) → AllByRecursion HasValues (flat_map params_texts entries)
  entries_values entries there =
      flat_each HasValues params_texts entries
      (each_implies (λ e. IsThere (params_in env e)) (λ (e : List Param). AllByRecursion HasValues (params_texts e)) params_values entries (each_some (params_in env) entries there))

  both_there : (a : Option (List Param)) (b : Option (List (List Param))) → IsThere {X = Option Matrix} (option_and_then (λ params. option_map (λ include. Some (record { params = params; include = include })) b) a) → IsThere a × IsThere b
  both_there None b there = let is = there.1 in cc (is)
  both_there (Some params) None there = let is = there.1 in cc (is)
  both_there (Some params) (Some include) there = ((params, refl), (include, refl))

  pub matrix_values : (matrix : Option Matrix) → IsThere (matrix_in env matrix) → AllByRecursion HasValues (matrix_texts matrix)
  matrix_values None there = tt
  matrix_values (Some matrix) there =
      let parts = both_there (all_some (map (list_in env) matrix.params)) (all_some (map (params_in env) matrix.include)) there in
      append_each HasValues (params_texts matrix.params) (flat_map params_texts matrix.include) (lists_values matrix.params parts.0) (entries_values matrix.include parts.1)

-- An environment that sees more words behind, and any results in place of none.

text_at-append : (key : List ℕ) (front back : List Pair) (text : List ℕ) → text_at key front ≡ Some text → text_at key (front ++ back) ≡ Some text
text_at-append key front back text is =
    ap (option_map (λ (p : Pair). p.value)) (find-append (λ (p : Pair). bytes_eq p.key key) front back)
    ∙ by_found (find (λ (p : Pair). bytes_eq p.key key) front) is
  where
    by_found : (o : Option Pair) → option_map (λ (p : Pair). p.value) o ≡ Some text
        → option_map (λ (p : Pair). p.value) (option_or o (find (λ (p : Pair). bytes_eq p.key key) back)) ≡ Some text
    by_found None none = cc
    by_found (Some pair) some = some

module _ (params : List Param) (words back : List Pair) (results : List Given) where
  abbrev bare : Env
  bare = record { params = params; results = []; words = words }

  abbrev more : Env
  more = record { params = params; results = results; words = words ++ back }

  target_same : (target : Target) → IsThere (target_value bare target) → target_value more target ≡ target_value bare target
  target_same (param name selector) there = refl
  target_same (result task name selector) there = let is = there.1 in cc (is)
  target_same (word key) there =
      let text = map_there Str (text_at key words) there in
      ap (option_map Str) (text_at-append key words back text.0 text.1 ∙ sym text.1)

  piece_same : (piece : Piece) → HasValue bare piece → SamePiece more bare piece
  piece_same (Plain text) value = tt
  piece_same (Ref r) value = target_same (target_of r.parts) value

  pub same_matrix : (matrix made : Option Matrix) → matrix_in bare matrix ≡ Some made → matrix_in more matrix ≡ Some made
  same_matrix matrix made is =
      matrix_same more bare matrix
      (each_implies (HasValues bare) (SameText more bare) (λ text values. each_implies (HasValue bare) (SamePiece more bare) piece_same (pieces_of text) values) (matrix_texts matrix)
      (matrix_values bare matrix (made, is)))
      ∙ is
