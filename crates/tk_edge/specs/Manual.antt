-- A clock that is set by hand.
use Rattle.std.specs.Prelude.{ℕ, ◌+◌, ◌-◌, ◌^◌, min, nat_lt, if◌then◌else◌, List, [], ◌∷◌, ◌++◌, replicate, reverse, Option, Some, None}
use Rattle.std.specs.Option.{option_map}
use Rattle.tk_edge.specs.declared.manual.Repeated.{Repeated}

-- the moment at which it stands, its last reading, how many readings it gave, and all of them where it tells them
pub record Manual : Type 0 where
  pub moment : ℕ
  pub last : ℕ
  pub calls : ℕ
  pub readings : Option (List ℕ)

-- the clock after one more reading; from 2^64 - 1 readings on it tells none
abbrev pub with_reading : Manual → Manual
with_reading clock = record {
  moment = clock.moment;
  last = clock.moment;
  calls = min (clock.calls + 1) (2 ^ 64 - 1);
  readings = if nat_lt (clock.calls + 1) (2 ^ 64 - 1) then option_map (λ older. clock.moment ∷ older) clock.readings else None;
}

-- the readings of equal ones that are repeated
abbrev pub readings_of : List Repeated → List ℕ
readings_of [] = []
readings_of (same ∷ older) = replicate same.count same.moment ++ readings_of older

-- the readings that are told after so many: those at the present moment, and those that were kept, of which the last is the newest
abbrev pub told_readings : ℕ → ℕ → ℕ → List Repeated → Option (List ℕ)
told_readings calls count moment earlier =
    if nat_lt calls (2 ^ 64 - 1) then Some (replicate count moment ++ readings_of (reverse earlier)) else None
