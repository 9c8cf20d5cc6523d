-- The groups of a map by the bytes of their owners.
use Rattle.std.proofs.Common.{◌≡◌, ℕ, List, [], ◌∷◌, map, Option, Some, None, refl, ap}
use Rattle.std.specs.Prelude.{bytes_eq, string_bytes, unwrap_or}
use Rattle.std.specs.Map.{lookup}
use Rattle.std.specs.declared.string.String.{String}
use Rattle.std.proofs.Common.{cond}
use Rattle.indexmap.specs.IndexMap.{IndexMap, get_by_text}
use Rattle.tk_groups.specs.Groups.{groups_in, names_of, Group}

module _ {A : Type 0} where
  one : String A × List (List ℕ) → Group
  one e = (string_bytes e.0, e.1)

  looked_up : (owner : List ℕ) (es : List (String A × List (List ℕ))) → lookup (bytes_eq owner) (map (λ (e : String A × List (List ℕ)). (string_bytes e.0, e.1)) es) ≡ lookup (λ (k : String A). bytes_eq owner (string_bytes k)) es
  looked_up owner [] = refl
  looked_up owner (e ∷ es) = ap (cond (bytes_eq owner (string_bytes e.0)) (Some e.1)) (looked_up owner es)

pub names_named : {A S : Type 0} (m : IndexMap (String A) (List (List ℕ)) S) (owner : List ℕ) → names_of (groups_in m) owner ≡ unwrap_or (get_by_text m owner) []
names_named m owner = ap (λ (o : Option (List (List ℕ))). unwrap_or o []) (looked_up owner m.entries)
