-- Which places are in a set, and what a set says of a list of names.
use Rattle.std.specs.Prelude.{◌≡◌, ◌≢◌, ◌≤◌, ◌<◌, ℕ, List, Bool, true, false, nat_eq, Option, Some, None, slice_get, if◌then◌else◌}
use Rattle.std.specs.List.{list_any}

-- the place is one of these
abbrev pub has : List ℕ → ℕ → Bool
has places place = list_any (nat_eq place) places

-- the set has the place or lacks it as is said, and all others as before
abbrev pub IsSet : ℕ → Bool → List ℕ → List ℕ → Type 0
IsSet place is_in old new = (other : ℕ) → has new other ≡ (if nat_eq place other then is_in else has old other)

-- the first place of the set that isn't below another one
abbrev pub IsNext : ℕ → List ℕ → Option ℕ → Type 0
IsNext from places None = (other : ℕ) → from ≤ other → has places other ≡ false
IsNext from places (Some place) = (from ≤ place) × (has places place ≡ true) × ((other : ℕ) → from ≤ other → other < place → has places other ≡ false)

-- the one place of a name among names that differ, None where it stands nowhere
abbrev pub IsPlaceOf : List (List ℕ) → List ℕ → Option ℕ → Type 0
IsPlaceOf names name None = (place : ℕ) → slice_get names place ≢ Some name
IsPlaceOf names name (Some at) = (slice_get names at ≡ Some name) × ((place : ℕ) → slice_get names place ≡ Some name → place ≡ at)

-- the set has the place of each name that passes the test
abbrev pub AreMarked : (List ℕ → Bool) → List (List ℕ) → List ℕ → Type 0
AreMarked test names places = (place : ℕ) (name : List ℕ) → slice_get names place ≡ Some name → test name ≡ true → has places place ≡ true

-- each name before a place is so
abbrev pub AllBefore : (List ℕ → Type 0) → List (List ℕ) → ℕ → Type 0
AllBefore IsSo names end = (place : ℕ) (name : List ℕ) → place < end → slice_get names place ≡ Some name → IsSo name
