-- Names that are new among those that are taken.
use Rattle.std.specs.Prelude.{◌≢◌, ℕ, List, All, AllPairs, Contains}

-- the name isn't taken yet
abbrev pub IsNew : List (List ℕ) → List ℕ → Type 0
IsNew taken name = Contains taken name → ⊥

-- these names differ, and none of them is taken yet
pub record AreNew (taken names : List (List ℕ)) : Type 0 where
  pub differ : AllPairs (λ a b. a ≢ b) names
  pub apart : All (IsNew taken) names
