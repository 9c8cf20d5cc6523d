-- Which moments a member's entries have, by the readings of its clock.
use Rattle.std.specs.Prelude.{◌≡◌, ◌⊎◌, ◌≤◌, ◌∷◌, [], ℕ, List, length, Bool, if◌then◌else◌, ⊤}
use Rattle.tk_edge.specs.declared.gate.GateTurn.{GateTurn}
use Rattle.tk_journal.specs.declared.entry.Entry.{Entry}
use Rattle.tk_rounds.specs.Covered.{works}

-- the moments of the member's entries, the newest first
abbrev pub moments : (Entry → Bool) → List Entry → List ℕ
moments mine [] = []
moments mine (e ∷ older) = if mine e then e.moment ∷ moments mine older else moments mine older

-- the first list is the second one with some left out
abbrev pub IsSublist : List ℕ → List ℕ → Type 0
IsSublist [] ys = ⊤
IsSublist (x ∷ xs) [] = ⊥
IsSublist (x ∷ xs) (y ∷ ys) = ((x ≡ y) × IsSublist xs ys) ⊎ IsSublist (x ∷ xs) ys

-- each Work answer took one reading, and each entry of the member has a reading of its own as its moment, in the same order
pub record AreTimed (mine : Entry → Bool) (answers : List GateTurn) (readings : List ℕ) (journal : List Entry) : Type 0 where
  pub one_each : length readings ≡ works answers
  pub own : IsSublist (moments mine journal) readings

-- readings, the newest first, that never fall, from one moment to another
abbrev pub AreBetween : ℕ → List ℕ → ℕ → Type 0
AreBetween since [] last = since ≤ last
AreBetween since (reading ∷ older) last = (reading ≤ last) × AreBetween since older reading
