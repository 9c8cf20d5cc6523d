-- The names of what a map keeps, in order.
use Rattle.std.proofs.Common.{◌≡◌, ℕ, List, [], ◌∷◌, ◌++◌, map, Some, None, Bool, true, false, refl, sym, ap, ◌∙◌, subst, inl, inr, cond}
use Rattle.std.specs.Prelude.{bytes_eq, string_bytes}
use Rattle.std.specs.List.{find}
use Rattle.std.specs.Map.{keys_of, lookup}
use Rattle.std.specs.Option.{is_some}
use Rattle.std.specs.String.{string_eq}
use Rattle.std.specs.declared.string.String.{String}
use Rattle.std.proofs.lemmas.Bool.{cases_Bool}
use Rattle.std.proofs.lemmas.List.{map-append}
use Rattle.indexmap.specs.IndexMap.{IndexMap, get, get_by, get_by_text, index_of_by, insert_entry, keys, IsUnique}
use Rattle.indexmap.proofs.CallerLemmas.{insert_entry-new}
use Rattle.tk_places.specs.Places.{IsPlaceOf}
use Rattle.tk_cache.proofs.Placed.{nowhere, one_place, stands}
use Rattle.tk_run_cache.specs.Labelled.{kept_names}

-- a new name stands last
pub kept_last : {A X S : Type 0} (m n : IndexMap (String A) X S) (key : String A) (name : List ℕ) (x : X) → string_bytes key ≡ name → get_by_text m name ≡ None → n.entries ≡ insert_entry string_eq m.entries key x
    → kept_names n ≡ kept_names m ++ name ∷ []
kept_last {A} {X} m n key name x is none entries =
    let absent : get string_eq m key ≡ None = subst (λ (bs : List ℕ). get_by_text m bs ≡ None) (sym is) none in
    ap (λ es. map string_bytes (keys_of es)) (entries ∙ insert_entry-new string_eq m key x absent)
    ∙ ap (map string_bytes) (map-append (λ (e : String A × X). e.0) m.entries ((key, x) ∷ []))
    ∙ map-append string_bytes (keys m) (key ∷ [])
    ∙ ap (λ (bs : List ℕ). kept_names m ++ bs ∷ []) is

-- where no entry is found, no key is
not_found : {K X : Type 0} (test : K → Bool) (es : List (K × X)) → false ≡ is_some (lookup test es) → find test (keys_of es) ≡ None
not_found test [] lacking = refl
not_found {K} {X} test (e ∷ es) lacking = elim (cases_Bool (test e.0)) [
  | inl hit ↦
      let some : false ≡ true = subst (λ (b : Bool). false ≡ is_some (cond b (Some e.1) (lookup test es))) hit lacking in
      absurd (cc (some))
  | inr miss ↦
      subst (λ (b : Bool). cond b (Some e.0) (find test (keys_of es)) ≡ None) (sym miss)
      (not_found test es (subst (λ (b : Bool). false ≡ is_some (cond b (Some e.1) (lookup test es))) miss lacking))
]

module _ {A X S : Type 0} (m : IndexMap (String A) X S) (name : List ℕ) where
  abbrev is_it : String A → Bool
  is_it key = bytes_eq name (string_bytes key)

  -- the place of a name
  pub place_found : IsUnique string_eq m → (place : ℕ) → index_of_by is_it m ≡ Some place → IsPlaceOf (kept_names m) name (Some place)
  place_found unique place is = (stands name (keys m) place is, λ other at. one_place name (keys m) unique other place at (stands name (keys m) place is))

  pub place_missing : false ≡ is_some (get_by is_it m) → IsPlaceOf (kept_names m) name None
  place_missing lacking = nowhere name (keys m) (not_found is_it m.entries lacking)
