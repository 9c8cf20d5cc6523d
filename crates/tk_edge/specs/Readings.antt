-- Lists that are told, the newest first, and the moments of a clock.
use Rattle.std.specs.Prelude.{◌≡◌, ◌&&◌, ℕ, nat_le, if◌then◌else◌, List, ◌∷◌, Option, Some, None}

-- one more stands in front, where the list is told
abbrev pub Adds : {X : Type 0} → X → Option (List X) → Option (List X) → Type 0
Adds x None after = after ≡ None
Adds x (Some before) after = after ≡ Some (x ∷ before)

-- the same of a list that may be told no longer: what is told was told before, with one less
abbrev pub AddsWhileTold : {X : Type 0} → X → Option (List X) → Option (List X) → Type 0
AddsWhileTold x before None = Unit {0}
AddsWhileTold x None (Some after) = ⊥
AddsWhileTold x (Some before) (Some after) = after ≡ x ∷ before

-- the last millisecond of the year 9999
abbrev pub last_moment : ℕ
last_moment = 253402300799999

-- the next reading, where the time is this: the last one again where it is earlier or over the limit
abbrev pub next_reading : ℕ → ℕ → ℕ
next_reading last time = if nat_le last time && nat_le time last_moment then time else last

-- the same, where there may be no time
abbrev pub reading_of : ℕ → Option ℕ → ℕ
reading_of last None = last
reading_of last (Some time) = next_reading last time
