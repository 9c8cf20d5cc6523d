-- The objects of a map by the bytes of their names.
use Rattle.std.proofs.Common.{◌≡◌, ℕ, List, [], ◌∷◌, map, Option, Some, None, Bool, true, false, refl, sym, ap, ◌∙◌, cond}
use Rattle.std.specs.Prelude.{bytes_eq, option_map, slice_get, string_bytes}
use Rattle.std.specs.Option.{option_map_or}
use Rattle.std.specs.Map.{keys_of, lookup}
use Rattle.std.specs.String.{string_eq}
use Rattle.std.specs.declared.string.String.{String}
use Rattle.std.proofs.lemmas.Option.{slice_get-map, same_Some}
use Rattle.indexmap.specs.IndexMap.{IndexMap, get}
use Rattle.tk_cache.specs.declared.objects.Held.{Held}
use Rattle.tk_cache.specs.Objects.{held_at, object_at, version_at, names_in}
use Rattle.tk_cache.specs.Views.{named, object_in, version_in}

abbrev both : {T : Type 0} → Held T → T × ℕ
both h = (h.object, h.version)

abbrev one : {A T : Type 0} → String A × Held T → List ℕ × (T × ℕ)
one e = (string_bytes e.0, both e.1)

module _ {T : Type 0} where
  first : (o : Option (Held T)) → option_map (λ (p : T × ℕ). p.0) (option_map both o) ≡ option_map (λ (h : Held T). h.object) o
  first None = refl
  first (Some h) = refl

  second : (o : Option (Held T)) → option_map_or (λ (p : T × ℕ). p.1) (option_map both o) 0 ≡ option_map_or (λ (h : Held T). h.version) o 0
  second None = refl
  second (Some h) = refl

  either : (b : Bool) (h : Held T) (o : Option (Held T)) → cond b (Some (both h)) (option_map both o) ≡ option_map both (cond b (Some h) o)
  either true h o = refl
  either false h o = refl

module _ {A T : Type 0} where
  looked_up : (name : List ℕ) (es : List (String A × Held T)) → lookup (bytes_eq name) (map one es) ≡ option_map both (lookup (λ (k : String A). bytes_eq name (string_bytes k)) es)
  looked_up name [] = refl
  looked_up name (e ∷ es) = ap (cond (bytes_eq name (string_bytes e.0)) (Some (both e.1))) (looked_up name es) ∙ either (bytes_eq name (string_bytes e.0)) e.1 (lookup (λ (k : String A). bytes_eq name (string_bytes k)) es)

  keys_named : (es : List (String A × Held T)) → keys_of (map one es) ≡ map string_bytes (keys_of es)
  keys_named [] = refl
  keys_named (e ∷ es) = ap (λ (names : List (List ℕ)). string_bytes e.0 ∷ names) (keys_named es)

module _ {A T S : Type 0} (m : IndexMap (String A) (Held T) S) where
  pub object_named : (name : List ℕ) → object_in (named m) name ≡ object_at m name
  object_named name = ap (option_map (λ (p : T × ℕ). p.0)) (looked_up name m.entries) ∙ first (held_at m name)

  pub version_named : (name : List ℕ) → version_in (named m) name ≡ version_at m name
  version_named name = ap (λ (o : Option (T × ℕ)). option_map_or (λ (p : T × ℕ). p.1) o 0) (looked_up name m.entries) ∙ second (held_at m name)

  -- the version where this is held
  pub version_held : (name : List ℕ) (o : Option (Held T)) → held_at m name ≡ o → version_in (named m) name ≡ option_map_or (λ (h : Held T). h.version) o 0
  version_held name o is = version_named name ∙ ap (λ (h : Option (Held T)). option_map_or (λ (x : Held T). x.version) h 0) is

  pub names_named : keys_of (named m) ≡ names_in m
  names_named = keys_named m.entries

  pub name_named : (place : ℕ) (key : String A) (held : Held T) → slice_get m.entries place ≡ Some (key, held) → slice_get (keys_of (named m)) place ≡ Some (string_bytes key)
  name_named place key held is =
      ap (λ (names : List (List ℕ)). slice_get names place) names_named
      ∙ slice_get-map string_bytes (keys_of m.entries) place
      ∙ ap (option_map string_bytes) (slice_get-map (λ (e : String A × Held T). e.0) m.entries place ∙ ap (option_map (λ (e : String A × Held T). e.0)) is)

  pub at_named : (place : ℕ) (key : String A) (held : Held T) → slice_get m.entries place ≡ Some (key, held) → get string_eq m key ≡ Some held
      → (name : List ℕ) → slice_get (keys_of (named m)) place ≡ Some name → object_in (named m) name ≡ Some held.object
  at_named place key held is there name named_so =
      let same : string_bytes key ≡ name = same_Some (string_bytes key) name (sym (name_named place key held is) ∙ named_so) in
      object_named name ∙ ap (object_at m) (sym same) ∙ ap (option_map (λ (h : Held T). h.object)) there
