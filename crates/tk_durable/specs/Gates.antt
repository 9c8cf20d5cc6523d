-- What is written at and behind a gate.
use Rattle.std.specs.Prelude.{◌≡◌, ◌⊎◌, ℕ, ◌+◌, List, ◌∷◌, ◌++◌, take}

-- the file begins with what stood there, the gate included
abbrev pub IsUntouched : ℕ → List ℕ → List ℕ → Type 0
IsUntouched gate old file = take (gate + 1) file ≡ take (gate + 1) old

-- The file is what stood before the gate, some gate, these bytes, and whatever follows.
pub record HasBehind (gate : ℕ) (old bytes file : List ℕ) : Type 0 where
  pub value : ℕ
  pub rest : List ℕ
  pub is : file ≡ take gate old ++ (value ∷ (bytes ++ rest))

-- nothing was written before the gate's end, or the bytes stand behind some gate
abbrev pub IsAddedOrNot : ℕ → List ℕ → List ℕ → List ℕ → Type 0
IsAddedOrNot gate old bytes file = IsUntouched gate old file ⊎ HasBehind gate old bytes file

-- the bytes stand behind an open gate
pub record IsAdded (gate : ℕ) (old bytes file : List ℕ) : Type 0 where
  pub rest : List ℕ
  pub is : file ≡ take gate old ++ (1 ∷ (bytes ++ rest))
