-- The keys of an object against a table.
use Rattle.std.specs.Prelude.{◌≡◌, ◌⊎◌, ◌++◌, ℕ, List, [], ◌∷◌, map, Option, Some, None, if◌then◌else◌, bytes_eq}
use Rattle.std.specs.List.{AllByRecursion}
use Rattle.tk_types.specs.declared.fault.Fault.{Fault}
use Rattle.tk_types.specs.Fault.{unknown_field, unsupported}
use Rattle.tk_types.specs.Place.{Place, ◌▸◌}
use Rattle.tk_types.specs.First.{Finding, first_of}
use Rattle.tk_fields.specs.declared.table.Role.{Role}
use Rattle.tk_fields.specs.declared.table.Role.TheVariants.{Used, Ignored, Refused}

-- keys, each with its role
abbrev pub Table : Type 0
Table = List (List ℕ × Role)

-- each name beside its role
abbrev pub rows_of : List (List ℕ) → List Role → Table
rows_of (name ∷ names) (role ∷ roles) = (name, role) ∷ rows_of names roles
rows_of _ _ = []

-- the role of a key, by the first row that names it
abbrev pub role_of : Table → List ℕ → Option Role
role_of [] key = None
role_of (row ∷ rows) key = if bytes_eq row.0 key then Some row.1 else role_of rows key

abbrev pub role_among : List (List ℕ) → List Role → List ℕ → Option Role
role_among names roles key = role_of (rows_of names roles) key

-- what is wrong with a key in a role: no row names it, or it is refused
abbrev pub key_finding : Place → List ℕ → Option Role → Finding
key_finding place key None = Some (unknown_field (place ▸ key))
key_finding place key (Some Refused) = Some (unsupported (place ▸ key))
key_finding place key (Some Used) = None
key_finding place key (Some Ignored) = None

-- the first of the keys that the table doesn't name or refuses
abbrev pub first_bad_key : Table → Place → List (List ℕ) → Finding
first_bad_key table place keys = first_of (map (λ key. key_finding place key (role_of table key)) keys)

-- the table names the key and doesn't refuse it
abbrev pub IsGood : Table → List ℕ → Type 0
IsGood table key = (role_of table key ≡ Some Used) ⊎ (role_of table key ≡ Some Ignored)

-- the fault is that of a key behind good ones
pub record IsFirstBad (table : Table) (place : Place) (keys : List (List ℕ)) (fault : Fault) : Type 0 where
  pub before : List (List ℕ)
  pub key : List ℕ
  pub after : List (List ℕ)
  pub split : keys ≡ before ++ key ∷ after
  pub good : AllByRecursion (IsGood table) before
  pub bad : key_finding place key (role_of table key) ≡ Some fault
