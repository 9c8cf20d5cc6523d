-- Names that stand twice.
use Rattle.std.specs.Prelude.{◌≡◌, ◌≢◌, ◌<◌, ℕ, List, [], map, length, take, slice_index_or, Option, option_map, bytes_eq}
use Rattle.std.specs.List.{enumerate_from, position}
use Rattle.tk_types.specs.First.{first_of}

-- the place at which the name of this place stood before, and this place
abbrev pub with_earlier : List (List ℕ) → ℕ × List ℕ → Option (ℕ × ℕ)
with_earlier names entry = option_map (λ earlier. (earlier, entry.0)) (position (bytes_eq entry.1) (take entry.0 names))

-- the first of those, over the names in their order
abbrev pub clash : List (List ℕ) → Option (ℕ × ℕ)
clash names = first_of (map (with_earlier names) (enumerate_from 0 names))

-- the name at a place
abbrev pub name_at : List (List ℕ) → ℕ → List ℕ
name_at names place = slice_index_or names place []

-- the names before this place all differ
abbrev pub DifferBelow : List (List ℕ) → ℕ → Type 0
DifferBelow names end = (i j : ℕ) → i < j → j < end → name_at names i ≢ name_at names j

-- what a clash is: two places of one name, before the later of which all names differ
pub record IsClash (names : List (List ℕ)) (earlier : ℕ) (later : ℕ) : Type 0 where
  pub ordered : earlier < later
  pub within : later < length names
  pub same : name_at names earlier ≡ name_at names later
  pub first : DifferBelow names later
