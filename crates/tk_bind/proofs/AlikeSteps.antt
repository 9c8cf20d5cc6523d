-- Two environments with the same parameters, results and keys of words have values for the same steps.
use Rattle.std.proofs.Common.{◌≡◌, ℕ, List, [], ◌∷◌, map, Bool, ◌&&◌, ◌⊎◌, inl, inr, Option, Some, None, Result, Ok, Err, refl, sym, ap, ap₂, ◌∙◌}
use Rattle.std.specs.Prelude.{is_ok, is_some, flat_map, option_map, option_and_then, ok_or}
use Rattle.std.specs.List.{list_all}
use Rattle.std.proofs.lemmas.List.Folds.{list_all-map}
use Rattle.tk_types.specs.declared.task.Step.{Step}
use Rattle.tk_types.specs.declared.value.Value.{Value}
use Rattle.tk_types.specs.declared.value.Value.TheVariants.{Str}
use Rattle.tk_types.specs.Lists.{all_ok}
use Rattle.tk_types.specs.Value.{text_at, value_named}
use Rattle.tk_vars.specs.declared.piece.Piece.{Piece}
use Rattle.tk_vars.specs.declared.piece.Piece.TheVariants.{Plain, Ref}
use Rattle.tk_vars.specs.declared.reference.Reference.{Reference}
use Rattle.tk_vars.specs.Reading.{pieces_of}
use Rattle.tk_vars.specs.Target.{Target, param, result, word as to_word, target_of, whole_of}
use Rattle.tk_bind.specs.declared.env.Env.{Env}
use Rattle.tk_bind.specs.Alike.{IsAlike}
use Rattle.tk_bind.specs.Fits.{step_elements, step_single_texts, step_has_values}
use Rattle.tk_bind.specs.Selector.{selected}
use Rattle.tk_bind.specs.Substitute.{result_named, target_value, reference_value, as_text, as_list, piece_text, on_ok, joined_text, substituted, element, substituted_list}

is_ok-on_ok : {T U E : Type 0} (f : T → U) (r : Result T E) → is_ok (on_ok f r) ≡ is_ok r
is_ok-on_ok f (Ok x) = refl
is_ok-on_ok f (Err e) = refl

is_ok-cons : {T E : Type 0} (x : T) (r : Result (List T) E) → is_ok (elim r [ Ok xs ↦ Ok (x ∷ xs) | Err e ↦ Err e ]) ≡ is_ok r
is_ok-cons x (Ok xs) = refl
is_ok-cons x (Err e) = refl

is_ok-all_ok : {T E : Type 0} (rs : List (Result T E)) → is_ok (all_ok rs) ≡ list_all is_ok rs
is_ok-all_ok [] = refl
is_ok-all_ok (Ok x ∷ rs) = is_ok-cons x (all_ok rs) ∙ is_ok-all_ok rs
is_ok-all_ok (Err e ∷ rs) = refl

-- all of some things are there where each is
is_ok-all : {X T E : Type 0} (f : X → Result T E) (xs : List X) → is_ok (all_ok (map f xs)) ≡ list_all (λ x. is_ok (f x)) xs
is_ok-all f xs = is_ok-all_ok (map f xs) ∙ list_all-map is_ok f xs

all_same : {X : Type 0} (p q : X → Bool) → ((x : X) → p x ≡ q x) → (xs : List X) → list_all p xs ≡ list_all q xs
all_same p q same [] = refl
all_same p q same (x ∷ xs) = ap₂ (λ a b. a && b) (same x) (all_same p q same xs)

-- the same value, or two texts
abbrev AreAlike : Option Value → Option Value → Type 0
AreAlike v w = (v ≡ w) ⊎ ((s : List ℕ) × (t : List ℕ) × (v ≡ Some (Str s)) × (w ≡ Some (Str t)))

texts_alike : (x y : Option (List ℕ)) → is_some x ≡ is_some y → AreAlike (option_map Str x) (option_map Str y)
texts_alike None None is = inl refl
texts_alike (Some s) (Some t) is = inr (s, t, refl, refl)
texts_alike None (Some t) is = cc
texts_alike (Some s) None is = cc

module _ (a b : Env) (alike : IsAlike a b) where
  target_alike : (target : Target) → AreAlike (target_value a target) (target_value b target)
  target_alike (param name selector) = inl (λ i. option_and_then (selected selector) (value_named name (alike.params i)))
  target_alike (result task name selector) = inl (λ i. option_and_then (selected selector) (result_named task name (alike.results i)))
  target_alike (to_word key) = texts_alike (text_at key a.words) (text_at key b.words) (alike.words key)

  text_by : (v w : Option Value) (spelling : List ℕ) → AreAlike v w → is_ok (ok_or (option_and_then as_text v) spelling) ≡ is_ok (ok_or (option_and_then as_text w) spelling)
  text_by v w spelling (inl same) = ap (λ o. is_ok (ok_or (option_and_then as_text o) spelling)) same
  text_by v w spelling (inr texts) = ap (λ o. is_ok (ok_or (option_and_then as_text o) spelling)) texts.2 ∙ sym (ap (λ o. is_ok (ok_or (option_and_then as_text o) spelling)) texts.3)

  list_by : (v w : Option Value) (spelling : List ℕ) → AreAlike v w → is_ok (ok_or (option_and_then as_list v) spelling) ≡ is_ok (ok_or (option_and_then as_list w) spelling)
  list_by v w spelling (inl same) = ap (λ o. is_ok (ok_or (option_and_then as_list o) spelling)) same
  list_by v w spelling (inr texts) = ap (λ o. is_ok (ok_or (option_and_then as_list o) spelling)) texts.2 ∙ sym (ap (λ o. is_ok (ok_or (option_and_then as_list o) spelling)) texts.3)

  piece_alike : (piece : Piece) → is_ok (piece_text a piece) ≡ is_ok (piece_text b piece)
  piece_alike (Plain text) = refl
  piece_alike (Ref r) = text_by (reference_value a r) (reference_value b r) r.spelling (target_alike (target_of r.parts))

  joined_alike : (pieces : List Piece) → is_ok (joined_text a pieces) ≡ is_ok (joined_text b pieces)
  joined_alike pieces =
      is_ok-on_ok (flat_map (λ (t : List ℕ). t)) (all_ok (map (piece_text a) pieces))
      ∙ (is_ok-all (piece_text a) pieces ∙ (all_same (λ p. is_ok (piece_text a p)) (λ p. is_ok (piece_text b p)) piece_alike pieces ∙ sym (is_ok-all (piece_text b) pieces)))
      ∙ sym (is_ok-on_ok (flat_map (λ (t : List ℕ). t)) (all_ok (map (piece_text b) pieces)))

  spliced_alike : (found : Option Reference) (x y : Result (List ℕ) (List ℕ)) → is_ok x ≡ is_ok y
      → is_ok (elim found [ None ↦ on_ok (λ t. t ∷ []) x | Some reference ↦ ok_or (option_and_then as_list (reference_value a reference)) reference.spelling ])
      ≡ is_ok (elim found [ None ↦ on_ok (λ t. t ∷ []) y | Some reference ↦ ok_or (option_and_then as_list (reference_value b reference)) reference.spelling ])
  spliced_alike None x y same = is_ok-on_ok (λ (t : List ℕ). t ∷ []) x ∙ (same ∙ sym (is_ok-on_ok (λ (t : List ℕ). t ∷ []) y))
  spliced_alike (Some r) x y same = list_by (reference_value a r) (reference_value b r) r.spelling (target_alike (target_of r.parts))

  pub text_alike : (text : List ℕ) → is_ok (substituted a text) ≡ is_ok (substituted b text)
  text_alike text = joined_alike (pieces_of text)

  element_alike : (text : List ℕ) → is_ok (element a text) ≡ is_ok (element b text)
  element_alike text = spliced_alike (whole_of (pieces_of text)) (joined_text a (pieces_of text)) (joined_text b (pieces_of text)) (text_alike text)

list_has : (env : Env) (texts : List (List ℕ)) → is_ok (substituted_list env texts) ≡ list_all (λ text. is_ok (element env text)) texts
list_has env texts = is_ok-on_ok (flat_map (λ (ts : List (List ℕ)). ts)) (all_ok (map (element env) texts)) ∙ is_ok-all (element env) texts

-- each text of a step has a value there too
pub step_alike : (a b : Env) → IsAlike a b → (step : Step) → step_has_values a step ≡ step_has_values b step
step_alike a b alike step =
    ap₂ (λ x y. x && y)
    (list_has a (step_elements step) ∙ (all_same (λ text. is_ok (element a text)) (λ text. is_ok (element b text)) (element_alike a b alike) (step_elements step) ∙ sym (list_has b (step_elements step))))
    (all_same (λ text. is_ok (substituted a text)) (λ text. is_ok (substituted b text)) (text_alike a b alike) (step_single_texts step))
