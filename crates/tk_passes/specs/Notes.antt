-- Journals as notes: what one number adds to them, and what others do.
use Rattle.std.specs.Prelude.{◌≡◌, ℕ, false, eqb, List, [], ◌∷◌, ◌++◌, All}
use Rattle.tk_turn.specs.Claims.{Note, written_by}

-- every entry is of this number
abbrev pub AllOf : ℕ → List Note → Type 0
AllOf n [] = Unit {0}
AllOf n (e ∷ es) = (e.owner ≡ n) × AllOf n es

-- none is
abbrev pub NoneOf : ℕ → List Note → Type 0
NoneOf n [] = Unit {0}
NoneOf n (e ∷ es) = (eqb e.owner n ≡ false) × NoneOf n es

-- the new entries stand at the end, and each is of this number and such
pub record Adds (n : ℕ) (Such : Note → Type 0) (before after : List Note) : Type 0 where
  pub new : List Note
  pub grown : after ≡ before ++ new
  pub own : AllOf n new
  pub such : All Such new

-- the journal goes on, and of this number only such entries are new
pub record Wrote (n : ℕ) (Such : Note → Type 0) (before after : List Note) : Type 0 where
  pub rest : List Note
  pub grown : after ≡ before ++ rest
  pub such : All Such (written_by n rest)
