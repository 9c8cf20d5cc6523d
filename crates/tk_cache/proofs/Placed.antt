-- The place of a name in a map.
use Rattle.std.proofs.Common.{◌≡◌, ◌≢◌, ℕ, zero, suc, List, [], ◌∷◌, length, map, Some, None, Bool, true, false, refl, sym, ap, ◌∙◌, subst, inl, inr, cond, ◌<◌, get_or, arith}
use Rattle.std.specs.Prelude.{slice_get, string_bytes, bytes_eq, nat_lt, option_map}
use Rattle.std.specs.List.{IsDistinct, AllByRecursion, find, position, position_or_len}
use Rattle.std.specs.String.{string_eq}
use Rattle.std.specs.declared.string.String.{String}
use Rattle.std.proofs.lemmas.Bool.{cases_Bool}
use Rattle.std.proofs.lemmas.List.Folds.{find_at}
use Rattle.std.proofs.lemmas.Map.Keys.{IsDistinct-head, IsDistinct-tail}
use Rattle.std.proofs.lemmas.Option.{slice_get-map, slice_get-get_or, same_Some}
use Rattle.std.proofs.lemmas.Slice.Eq.{bytes_eq-Decides}
use Rattle.std.specs.Map.{keys_of, lookup}
use Rattle.std.specs.Option.{is_some}
use Rattle.indexmap.specs.IndexMap.{IndexMap, keys, get_by, index_of_by, IsUnique}
use Rattle.tk_cache.specs.declared.objects.Held.{Held}
use Rattle.tk_places.specs.Places.{IsPlaceOf}
use Rattle.tk_cache.specs.Views.{named}
use Rattle.tk_cache.proofs.Named.{names_named}

module _ {A : Type 0} where
  abbrev texts : List (String A) → List (List ℕ)
  texts ks = map string_bytes ks

  -- a text stands nowhere among others
  not_among : (k : String A) (ks : List (String A)) → AllByRecursion (λ (y : String A). string_eq k y ≡ false) ks → (place : ℕ) → slice_get (texts ks) place ≢ Some (string_bytes k)
  not_among k [] all place at = absurd (cc (at))
  not_among k (y ∷ ks) all zero at = absurd (cc (all.0, (bytes_eq-Decides (string_bytes k) (string_bytes y)).1 (sym (same_Some (string_bytes y) (string_bytes k) at))))
  not_among k (y ∷ ks) all (suc place) at = not_among k ks all.1 place at

  -- two places of one name
  pub one_place : (name : List ℕ) (ks : List (String A)) → IsDistinct string_eq ks → (one other : ℕ) → slice_get (texts ks) one ≡ Some name → slice_get (texts ks) other ≡ Some name → one ≡ other
  one_place name [] distinct one other at_one at_other = absurd (cc (at_one))
  one_place name (k ∷ ks) distinct zero zero at_one at_other = refl
  one_place name (k ∷ ks) distinct zero (suc other) at_one at_other = absurd (not_among k ks (IsDistinct-head string_eq k ks distinct) other (at_other ∙ sym at_one))
  one_place name (k ∷ ks) distinct (suc one) zero at_one at_other = absurd (not_among k ks (IsDistinct-head string_eq k ks distinct) one (at_one ∙ sym at_other))
  one_place name (k ∷ ks) distinct (suc one) (suc other) at_one at_other = ap suc (one_place name ks (IsDistinct-tail string_eq k ks distinct) one other at_one at_other)

  module _ (name : List ℕ) where
    abbrev is_it : String A → Bool
    is_it k = bytes_eq name (string_bytes k)

    -- what is found has the name
    found_name : (ks : List (String A)) (found : String A) → find is_it ks ≡ Some found → string_bytes found ≡ name
    found_name [] found is = absurd (cc (is))
    found_name (k ∷ ks) found is = elim (cases_Bool (is_it k)) [
      | inl hit ↦
          let own : Some k ≡ Some found = subst (λ (b : Bool). cond b (Some k) (find is_it ks) ≡ Some found) hit is in
          ap string_bytes (sym (same_Some k found own)) ∙ sym ((bytes_eq-Decides name (string_bytes k)).0 hit)
      | inr miss ↦ found_name ks found (subst (λ (b : Bool). cond b (Some k) (find is_it ks) ≡ Some found) miss is)
    ]

    -- a name that isn't found stands in no place
    pub nowhere : (ks : List (String A)) → find is_it ks ≡ None → (place : ℕ) → slice_get (texts ks) place ≢ Some name
    nowhere [] none place at = absurd (cc (at))
    nowhere (k ∷ ks) none place at = elim (cases_Bool (is_it k)) [
      | inl hit ↦
          let some : Some k ≡ None = subst (λ (b : Bool). cond b (Some k) (find is_it ks) ≡ None) hit none in
          absurd (cc (some))
      | inr miss ↦ behind miss (nowhere ks (subst (λ (b : Bool). cond b (Some k) (find is_it ks) ≡ None) miss none)) place at
    ]
      where
        behind : is_it k ≡ false → ((place : ℕ) → slice_get (texts ks) place ≢ Some name) → (place : ℕ) → slice_get (texts (k ∷ ks)) place ≢ Some name
        behind miss rest zero at = absurd (cc (miss, (bytes_eq-Decides name (string_bytes k)).1 (sym (same_Some (string_bytes k) name at))))
        behind miss rest (suc place) at = rest place at

    first_stands : (ks : List (String A)) → position_or_len is_it ks < length ks → slice_get (texts ks) (position_or_len is_it ks) ≡ Some name
    first_stands [] within = absurd (omega (arith, within))
    first_stands (k ∷ ks) within =
        let at : slice_get (k ∷ ks) (position_or_len is_it (k ∷ ks)) ≡ Some (get_or (k ∷ ks) (position_or_len is_it (k ∷ ks)) k) = slice_get-get_or (k ∷ ks) (position_or_len is_it (k ∷ ks)) k within in
        slice_get-map string_bytes (k ∷ ks) (position_or_len is_it (k ∷ ks))
        ∙ ap (option_map string_bytes) at
        ∙ ap Some (found_name (k ∷ ks) (get_or (k ∷ ks) (position_or_len is_it (k ∷ ks)) k) (find_at is_it (k ∷ ks) ∙ at))

    -- the first place stands where it is found
    pub stands : (ks : List (String A)) (place : ℕ) → position is_it ks ≡ Some place → slice_get (texts ks) place ≡ Some name
    stands ks place is = elim (cases_Bool (nat_lt (position_or_len is_it ks) (length ks))) [
      | inl within ↦
          subst (λ (p : ℕ). slice_get (texts ks) p ≡ Some name) (same_Some (position_or_len is_it ks) place (subst (λ (b : Bool). cond b (Some (position_or_len is_it ks)) None ≡ Some place) within is))
          (first_stands ks (grind (arith, within)))
      | inr past ↦
          let none : None ≡ Some place = subst (λ (b : Bool). cond b (Some (position_or_len is_it ks)) None ≡ Some place) past is in
          absurd (cc (none))
    ]

-- where no entry is found, no key is
not_found : {K X : Type 0} (test : K → Bool) (es : List (K × X)) → false ≡ is_some (lookup test es) → find test (keys_of es) ≡ None
not_found test [] lacking = refl
not_found {K} {X} test (e ∷ es) lacking = elim (cases_Bool (test e.0)) [
  | inl hit ↦
      let some : false ≡ true = subst (λ (b : Bool). false ≡ is_some (cond b (Some e.1) (lookup test es))) hit lacking in
      absurd (cc (some))
  | inr miss ↦
      subst (λ (b : Bool). cond b (Some e.0) (find test (keys_of es)) ≡ None) (sym miss)
      (not_found test es (subst (λ (b : Bool). false ≡ is_some (cond b (Some e.1) (lookup test es))) miss lacking))
]

module _ {A T S : Type 0} (m : IndexMap (String A) (Held T) S) (name : List ℕ) where
  -- of the objects of a map
  pub place_found : IsUnique string_eq m → (place : ℕ) → index_of_by (is_it name) m ≡ Some place → IsPlaceOf (keys_of (named m)) name (Some place)
  place_found unique place is =
      subst (λ (names : List (List ℕ)). IsPlaceOf names name (Some place)) (sym (names_named m))
      (stands name (keys m) place is, λ other at. one_place name (keys m) unique other place at (stands name (keys m) place is))

  pub place_missing : false ≡ is_some (get_by (is_it name) m) → IsPlaceOf (keys_of (named m)) name None
  place_missing lacking = subst (λ (names : List (List ℕ)). IsPlaceOf names name None) (sym (names_named m)) (nowhere name (keys m) (not_found (is_it name) m.entries lacking))
