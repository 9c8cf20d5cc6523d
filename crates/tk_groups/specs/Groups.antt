-- Which names belong to what.
use Rattle.std.specs.Prelude.{◌≡◌, ℕ, List, [], ◌∷◌, ◌++◌, map, Option, unwrap_or, bytes_eq, string_bytes, if◌then◌else◌}
use Rattle.std.specs.Map.{lookup}
use Rattle.std.specs.declared.string.String.{String}
use Rattle.indexmap.specs.IndexMap.{IndexMap, get_by_text}

-- what names belong to, and these names
abbrev pub Group : Type 0
Group = List ℕ × List (List ℕ)

-- the names of a group, none where there is no such group
abbrev pub names_of : List Group → List ℕ → List (List ℕ)
names_of groups owner = unwrap_or (lookup (bytes_eq owner) groups) []

-- a name stands behind those of its group, and each other group is as before
abbrev pub IsAdded : List ℕ → List ℕ → List Group → List Group → Type 0
IsAdded owner name old new = (other : List ℕ) → names_of new other ≡ (if bytes_eq owner other then names_of old other ++ name ∷ [] else names_of old other)

-- the groups that a map has
abbrev pub groups_in : {A S : Type 0} → IndexMap (String A) (List (List ℕ)) S → List Group
groups_in {A} m = map (λ (e : String A × List (List ℕ)). (string_bytes e.0, e.1)) m.entries
