-- A name is found in the map exactly where it is among the keys, and a new one comes last.
use Rattle.std.proofs.Common.{◌≡◌, ℕ, zero, suc, List, [], ◌∷◌, ◌++◌, map, Option, Some, None, Bool, false, cond, Contains, refl, sym, ap, ◌∙◌, subst, inl, inr, arith}
use Rattle.std.specs.Prelude.{bytes_eq, string_bytes}
use Rattle.std.specs.Map.{keys_of, lookup}
use Rattle.std.specs.String.{string_eq}
use Rattle.std.specs.declared.string.String.{String}
use Rattle.std.proofs.lemmas.Bool.{cases_Bool, false≢true}
use Rattle.std.proofs.lemmas.List.{map-append}
use Rattle.std.proofs.lemmas.List.Elements.{Contains-append_right}
use Rattle.std.proofs.lemmas.Option.{none-some}
use Rattle.std.proofs.lemmas.Slice.Eq.{bytes_eq-Decides}
use Rattle.indexmap.specs.IndexMap.{IndexMap, get, get_by, insert_entry, keys}
use Rattle.indexmap.proofs.CallerLemmas.{insert_entry-new}
use Rattle.tk_taken_names.specs.Taken.{IsNew}

abbrev pub is_it : {A : Type 0} → List ℕ → String A → Bool
is_it name key = bytes_eq name (string_bytes key)

abbrev pub names_in : {A X : Type 0} → List (String A × X) → List (List ℕ)
names_in es = map string_bytes (keys_of es)

module _ {A X : Type 0} (name : List ℕ) where
  -- what isn't found isn't there
  apart_first : (e : String A × X) (es : List (String A × X)) → is_it name e.0 ≡ false → (Contains (names_in es) name → ⊥) → Contains (names_in (e ∷ es)) name → ⊥
  apart_first e es miss later (zero, below, is) = false≢true (sym miss ∙ (bytes_eq-Decides name (string_bytes e.0)).1 (sym is))
  apart_first e es miss later (suc k, below, is) = later (k, omega arith, is)

  apart : (es : List (String A × X)) → lookup (is_it name) es ≡ None → Contains (names_in es) name → ⊥
  apart [] none has = omega (arith, has.1)
  apart (e ∷ es) none has = elim (cases_Bool (is_it name e.0)) [
    | inl hit ↦ none-some e.1 (sym none ∙ ap (λ (b : Bool). cond b (Some e.1) (lookup (is_it name) es)) hit)
    | inr miss ↦ apart_first e es miss (apart es (sym (ap (λ (b : Bool). cond b (Some e.1) (lookup (is_it name) es)) miss) ∙ none)) has
  ]

  -- what is found is there
  there : (es : List (String A × X)) (x : X) → lookup (is_it name) es ≡ Some x → Contains (names_in es) name
  there [] x found = absurd (none-some x found)
  there (e ∷ es) x found = elim (cases_Bool (is_it name e.0)) [
    | inl hit ↦ (0, omega arith, sym ((bytes_eq-Decides name (string_bytes e.0)).0 hit))
    | inr miss ↦ Contains-append_right (string_bytes e.0 ∷ []) (names_in es) name (there es x (sym (ap (λ (b : Bool). cond b (Some e.1) (lookup (is_it name) es)) miss) ∙ found))
  ]

  none_there : (es : List (String A × X)) (o : Option X) → lookup (is_it name) es ≡ o → IsNew (names_in es) name → o ≡ None
  none_there es None is new = refl
  none_there es (Some x) is new = absurd (new (there es x is))

  pub is_new : {S : Type 0} (m : IndexMap (String A) X S) → get_by (is_it name) m ≡ None → IsNew (map string_bytes (keys m)) name
  is_new m none = apart m.entries none

  pub is_absent : {S : Type 0} (m : IndexMap (String A) X S) → IsNew (map string_bytes (keys m)) name → get_by (is_it name) m ≡ None
  is_absent m new = none_there m.entries (get_by (is_it name) m) refl new

-- a new name comes last
pub comes_last : {A X S : Type 0} (m n : IndexMap (String A) X S) (key : String A) (name : List ℕ) (x : X) → string_bytes key ≡ name → IsNew (map string_bytes (keys m)) name → n.entries ≡ insert_entry string_eq m.entries key x
    → map string_bytes (keys n) ≡ map string_bytes (keys m) ++ name ∷ []
comes_last {A} {X} m n key name x is new entries =
    let absent : get string_eq m key ≡ None = subst (λ (bs : List ℕ). get_by (is_it bs) m ≡ None) (sym is) (is_absent name m new) in
    ap (λ es. map string_bytes (keys_of es)) (entries ∙ insert_entry-new string_eq m key x absent)
    ∙ ap (map string_bytes) (map-append (λ (e : String A × X). e.0) m.entries ((key, x) ∷ []))
    ∙ map-append string_bytes (keys m) (key ∷ [])
    ∙ ap (λ (bs : List ℕ). map string_bytes (keys m) ++ bs ∷ []) is
