-- What a text gives depends on the values of the references that stand in it alone.
use Rattle.std.proofs.Common.{◌≡◌, ℕ, Bool, true, false, cond, List, [], ◌∷◌, ◌++◌, map, Option, Some, None, Result, refl, sym, ap, subst}
use Rattle.std.specs.Prelude.{Contains, flat_map, filter_map, ok_or, option_map, option_and_then}
use Rattle.std.specs.List.{AllByRecursion, cons_option}
use Rattle.std.specs.Result.{result_ok}
use Rattle.tk_types.specs.declared.value.Pair.{Pair}
use Rattle.tk_types.specs.declared.value.Param.{Param}
use Rattle.tk_types.specs.declared.value.Value.{Value}
use Rattle.tk_types.specs.declared.value.Value.TheVariants.{Str, Arr, Obj}
use Rattle.tk_types.specs.declared.task.Matrix.{Matrix}
use Rattle.tk_types.specs.declared.task.PipelineTask.{PipelineTask}
use Rattle.tk_types.specs.declared.task.When.{When}
use Rattle.tk_types.specs.Lists.{all_ok, all_some}
use Rattle.tk_types.specs.Value.{value_named, value_texts, text_at}
use Rattle.tk_vars.specs.declared.piece.Piece.{Piece}
use Rattle.tk_vars.specs.declared.piece.Piece.TheVariants.{Plain, Ref}
use Rattle.tk_vars.specs.declared.reference.Reference.{Reference}
use Rattle.tk_vars.specs.Offset.{bad_offset}
use Rattle.tk_vars.specs.Reading.{pieces_of, ends_with_star}
use Rattle.tk_vars.specs.Target.{Target, param, result, word, target_of, whole_of, referenced}
use Rattle.tk_graph.specs.Results.{params_texts, matrix_texts, when_texts, guards_texts, task_texts, referenced_result, text_results, results_read}
use Rattle.tk_bind.specs.declared.env.Env.{Env}
use Rattle.tk_bind.specs.Selector.{selected}
use Rattle.tk_bind.specs.Substitute.{result_named, target_value, reference_value, as_text, as_list, piece_text, on_ok, joined_text, spliced_texts, whole_value, substituted, element, substituted_list, substituted_pair, substituted_value}
use Rattle.tk_bind.specs.Params.{param_in, list_in, params_in, matrix_in}
use Rattle.tk_verdict.specs.Bindings.{guard_in, guards_in, few_combinations, combinations_in}
use Rattle.tk_verdict.proofs.Elements.{each_implies, each_append, each_flat_map, each_map, map_same, first_in, next_in}

-- The two environments give a reference the same value; so each reference of a piece, of a text and of some texts.
abbrev pub SamePiece : Env → Env → Piece → Type 0
SamePiece a b (Plain text) = Unit {0}
SamePiece a b (Ref r) = reference_value a r ≡ reference_value b r

abbrev pub SamePieces : Env → Env → List Piece → Type 0
SamePieces a b pieces = AllByRecursion (SamePiece a b) pieces

abbrev pub SameText : Env → Env → List ℕ → Type 0
SameText a b text = SamePieces a b (pieces_of text)

abbrev pub SameTexts : Env → Env → List (List ℕ) → Type 0
SameTexts a b texts = AllByRecursion (SameText a b) texts

abbrev SameFound : Env → Env → Option Reference → Type 0
SameFound a b None = Unit {0}
SameFound a b (Some r) = reference_value a r ≡ reference_value b r

module _ (a b : Env) where
  piece_same : (piece : Piece) → SamePiece a b piece → piece_text a piece ≡ piece_text b piece
  piece_same (Plain text) same = refl
  piece_same (Ref r) same = ap (λ (v : Option Value). ok_or (option_and_then as_text v) r.spelling) same

  joined_same : (pieces : List Piece) → SamePieces a b pieces → joined_text a pieces ≡ joined_text b pieces
  joined_same pieces same =
      ap (λ (rs : List (Result (List ℕ) (List ℕ))). on_ok (flat_map (λ (t : List ℕ). t)) (all_ok rs))
      (map_same (piece_text a) (piece_text b) pieces (each_implies (SamePiece a b) (λ p. piece_text a p ≡ piece_text b p) piece_same pieces same))

  found_where : (star : Bool) (r : Reference) → reference_value a r ≡ reference_value b r → SameFound a b (cond star (Some r) None)
  found_where true r same = same
  found_where false r same = tt

  whole_same : (pieces : List Piece) → SamePieces a b pieces → SameFound a b (whole_of pieces)
  whole_same [] same = tt
  whole_same (Plain text ∷ pieces) same = tt
  whole_same (Ref r ∷ []) same = found_where (ends_with_star r.parts) r same.0
  whole_same (Ref r ∷ p ∷ pieces) same = tt

  spliced_by : (found : Option Reference) (x y : Result (List (List ℕ)) (List ℕ)) → SameFound a b found → x ≡ y
      → ◌≡◌ {A = Result (List (List ℕ)) (List ℕ)}
      (elim found [ None ↦ x | Some reference ↦ ok_or (option_and_then as_list (reference_value a reference)) reference.spelling ])
      (elim found [ None ↦ y | Some reference ↦ ok_or (option_and_then as_list (reference_value b reference)) reference.spelling ])
  spliced_by None x y same e = e
  spliced_by (Some r) x y same e = ap (λ (v : Option Value). ok_or (option_and_then as_list v) r.spelling) same

  whole_by : (found : Option Reference) (x y : Result Value (List ℕ)) → SameFound a b found → x ≡ y
      → ◌≡◌ {A = Result Value (List ℕ)}
      (elim found [ None ↦ x | Some reference ↦ ok_or (reference_value a reference) reference.spelling ])
      (elim found [ None ↦ y | Some reference ↦ ok_or (reference_value b reference) reference.spelling ])
  whole_by None x y same e = e
  whole_by (Some r) x y same e = ap (λ (v : Option Value). ok_or v r.spelling) same

  spliced_same : (pieces : List Piece) → SamePieces a b pieces → spliced_texts a pieces ≡ spliced_texts b pieces
  spliced_same pieces same =
      spliced_by (whole_of pieces) (on_ok (λ t. t ∷ []) (joined_text a pieces)) (on_ok (λ t. t ∷ []) (joined_text b pieces)) (whole_same pieces same)
      (ap (on_ok (λ (t : List ℕ). t ∷ [])) (joined_same pieces same))

  whole_value_same : (pieces : List Piece) → SamePieces a b pieces → whole_value a pieces ≡ whole_value b pieces
  whole_value_same pieces same =
      whole_by (whole_of pieces) (on_ok Str (joined_text a pieces)) (on_ok Str (joined_text b pieces)) (whole_same pieces same)
      (ap (on_ok Str) (joined_same pieces same))

  -- texts, lists, pairs and values

  text_same : (text : List ℕ) → SameText a b text → substituted a text ≡ substituted b text
  text_same text same = joined_same (pieces_of text) same

  list_same : (texts : List (List ℕ)) → SameTexts a b texts → substituted_list a texts ≡ substituted_list b texts
  list_same texts same =
      ap (λ (rs : List (Result (List (List ℕ)) (List ℕ))). on_ok (flat_map (λ (ts : List (List ℕ)). ts)) (all_ok rs))
      (map_same (element a) (element b) texts (each_implies (SameText a b) (λ t. element a t ≡ element b t) (λ t s. spliced_same (pieces_of t) s) texts same))

  pair_same : (pair : Pair) → SameText a b pair.value → substituted_pair a pair ≡ substituted_pair b pair
  pair_same pair same = ap (on_ok (λ (text : List ℕ). record pair { value = text })) (text_same pair.value same)

  value_same : (value : Value) → SameTexts a b (value_texts value) → substituted_value a value ≡ substituted_value b value
  value_same (Str text) same = whole_value_same (pieces_of text) same.0
  value_same (Arr texts) same = ap (on_ok Arr) (list_same texts same)
  value_same (Obj pairs) same =
      ap (λ (rs : List (Result Pair (List ℕ))). on_ok Obj (all_ok rs))
      (map_same (substituted_pair a) (substituted_pair b) pairs
      (each_implies (λ (p : Pair). SameText a b p.value) (λ p. substituted_pair a p ≡ substituted_pair b p) pair_same pairs
      (each_map (SameText a b) (λ (p : Pair). p.value) pairs same)))

  -- parameters, a matrix, `when` expressions and combinations

  param_same : (p : Param) → SameTexts a b (value_texts p.value) → param_in a p ≡ param_in b p
  param_same p same = ap (λ (r : Result Value (List ℕ)). option_map (λ value. record p { value = value }) (result_ok r)) (value_same p.value same)

  list_in_same : (p : Param) → SameTexts a b (value_texts p.value) → list_in a p ≡ list_in b p
  list_in_same p same =
      ap (λ (found : Option Param). option_and_then (λ (q : Param). option_map (λ texts. record q { value = Arr texts }) (as_list q.value)) found) (param_same p same)

  params_same : (params : List Param) → SameTexts a b (params_texts params) → params_in a params ≡ params_in b params
  params_same params same =
      ap (λ (os : List (Option Param)). all_some os)
      (map_same (param_in a) (param_in b) params
      (each_implies (λ (p : Param). SameTexts a b (value_texts p.value)) (λ p. param_in a p ≡ param_in b p) param_same params
      (each_flat_map (SameText a b) (λ (p : Param). value_texts p.value) params same)))

  lists_same : (params : List Param) → SameTexts a b (params_texts params) → all_some (map (list_in a) params) ≡ all_some (map (list_in b) params)
  lists_same params same =
      ap (λ (os : List (Option Param)). all_some os)
      (map_same (list_in a) (list_in b) params
      (each_implies (λ (p : Param). SameTexts a b (value_texts p.value)) (λ p. list_in a p ≡ list_in b p) list_in_same params
      (each_flat_map (SameText a b) (λ (p : Param). value_texts p.value) params same)))

  entries_same : (entries : List (List Param)) → SameTexts a b (flat_map params_texts entries) → all_some (map (params_in a) entries) ≡ all_some (map (params_in b) entries)
  entries_same entries same =
      ap (λ (os : List (Option (List Param))). all_some os)
      (map_same (params_in a) (params_in b) entries
      (each_implies (λ (e : List Param). SameTexts a b (params_texts e)) (λ e. params_in a e ≡ params_in b e) params_same entries
      (each_flat_map (SameText a b) params_texts entries same)))

  pub matrix_same : (matrix : Option Matrix) → SameTexts a b (matrix_texts matrix) → matrix_in a matrix ≡ matrix_in b matrix
  matrix_same None same = refl
  matrix_same (Some matrix) same =
      let parts = each_append (SameText a b) (params_texts matrix.params) (flat_map params_texts matrix.include) same in
      λ i. option_and_then (λ params. option_map (λ include. Some (record { params = params; include = include })) (entries_same matrix.include parts.1 i)) (lists_same matrix.params parts.0 i)

  guard_same : (guard : When) → SameTexts a b (when_texts guard) → guard_in a guard ≡ guard_in b guard
  guard_same guard same =
      λ i. option_and_then (λ input. option_map (λ values. record guard { input = input; values = values }) (result_ok (list_same guard.values same.1 i))) (result_ok (text_same guard.input same.0 i))

  guards_same : (task : PipelineTask) → SameTexts a b (guards_texts task.when) → guards_in a task ≡ guards_in b task
  guards_same task same =
      ap (λ (os : List (Option When)). all_some os)
      (map_same (guard_in a) (guard_in b) task.when
      (each_implies (λ (g : When). SameTexts a b (when_texts g)) (λ g. guard_in a g ≡ guard_in b g) guard_same task.when
      (each_flat_map (SameText a b) when_texts task.when same)))

-- what two environments make of a task is the same
pub record SameTask (a b : Env) (task : PipelineTask) : Type 0 where
  pub guards : guards_in a task ≡ guards_in b task
  pub matrix : matrix_in a task.matrix ≡ matrix_in b task.matrix
  pub combinations : combinations_in a task ≡ combinations_in b task

pub task_same : (a b : Env) (task : PipelineTask) → SameTexts a b (task_texts task) → SameTask a b task
task_same a b task same =
    let parts = each_append (SameText a b) (params_texts task.params ++ matrix_texts task.matrix) (guards_texts task.when) same in
    let front = each_append (SameText a b) (params_texts task.params) (matrix_texts task.matrix) parts.0 in
    let of_matrix : matrix_in a task.matrix ≡ matrix_in b task.matrix = matrix_same a b task.matrix front.1 in
    record {
      guards = guards_same a b task parts.1;
      matrix = of_matrix;
      combinations = λ i. option_and_then (λ own. option_and_then (few_combinations own) (of_matrix i)) (params_same a b task.params front.0 i);
    }

-- Environments with the same parameters and words, and the same values of the results that a text refers to.

abbrev pub SameResult : Env → Env → List ℕ × List ℕ → Type 0
SameResult a b named = result_named named.0 named.1 a.results ≡ result_named named.0 named.1 b.results

module _ (a b : Env) (params : a.params ≡ b.params) (words : a.words ≡ b.words) where
  target_same : (target : Target) → ((named : List ℕ × List ℕ) → referenced_result target ≡ Some named → SameResult a b named) → target_value a target ≡ target_value b target
  target_same (param name selector) same = ap (λ (ps : List Param). option_and_then (selected selector) (value_named name ps)) params
  target_same (result task name selector) same = ap (option_and_then (selected selector)) (same (task, name) refl)
  target_same (word key) same = ap (λ (ws : List Pair). option_map Str (text_at key ws)) words

  in_front : (o : Option (List ℕ × List ℕ)) (named : List ℕ × List ℕ) (rest : List (List ℕ × List ℕ)) → o ≡ Some named → Contains (cons_option o rest) named
  in_front o named rest is = subst (λ p. Contains (cons_option p rest) named) (sym is) (first_in named rest)

  behind : (o : Option (List ℕ × List ℕ)) (named : List ℕ × List ℕ) (rest : List (List ℕ × List ℕ)) → Contains rest named → Contains (cons_option o rest) named
  behind None named rest c = c
  behind (Some first) named rest c = next_in named first rest c

  pieces_same : (pieces : List Piece)
      → ((named : List ℕ × List ℕ) → Contains (filter_map (λ (r : Reference). referenced_result (target_of r.parts)) (filter_map referenced pieces)) named → SameResult a b named)
      → SamePieces a b pieces
  pieces_same [] same = tt
  pieces_same (Plain text ∷ pieces) same = (tt, pieces_same pieces same)
  pieces_same (Ref r ∷ pieces) same =
      let rest = filter_map (λ (q : Reference). referenced_result (target_of q.parts)) (filter_map referenced pieces) in (
        target_same (target_of r.parts) (λ named is. same named (in_front (referenced_result (target_of r.parts)) named rest is)),
        pieces_same pieces (λ named c. same named (behind (referenced_result (target_of r.parts)) named rest c)),
      )

  pub text_agrees : (text : List ℕ) → bad_offset text ≡ None → ((named : List ℕ × List ℕ) → Contains (text_results text) named → SameResult a b named) → SameText a b text
  unfolding text_results
  text_agrees text good same =
      pieces_same (pieces_of text)
      (λ named c. same named (subst (λ (o : Option ℕ). Contains (elim o [ None ↦ results_read text | Some offset ↦ [] ]) named) (sym good) c))
