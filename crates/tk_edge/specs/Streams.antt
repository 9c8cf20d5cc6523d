-- When a read gives the end, and which writes fail.
use Rattle.std.specs.Prelude.{ℕ, ◌≡◌, ◌<◌, ◌==◌, ◌⊎◌, ◌↔◌, ◌&&◌, not, if◌then◌else◌, Bool, IsTrue, List, length, Result, Ok, MatchResult}
use Rattle.tk_edge.specs.declared.miss.Failed.{Failed}
use Rattle.tk_edge.specs.declared.miss.Miss.{Miss}
use Rattle.tk_edge.specs.Causes.{raised, CountsMiss}

-- the end is given where it was given before, or by no byte into a buffer that has room
abbrev pub GivesEnd : Bool → Bool → Result ℕ Failed → List ℕ → Type 0
GivesEnd before now result buf = IsTrue now ↔ (IsTrue before ⊎ (result ≡ Ok 0) × (0 < length buf))

-- a write took nothing of a piece that isn't empty
abbrev pub takes_nothing : List ℕ → ℕ → Bool
takes_nothing piece taken = (taken == 0) && not (length piece == 0)

-- the count of faults after a write: one more where it failed or took nothing, and as it was where it took bytes or lacked memory
abbrev pub CountsWrite : List ℕ → ℕ → ℕ → Result ℕ Miss → Type 0
CountsWrite piece before now result =
    MatchResult result (λ taken. now ≡ (if takes_nothing piece taken then raised before else before)) (CountsMiss before now)
