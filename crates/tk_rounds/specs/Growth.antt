-- How a history grows by entries of some actors.
use Rattle.std.specs.Prelude.{◌≡◌, ◌≢◌, ◌++◌, ◌<◌, ◌≤◌, ℕ, List, Bool, true, false, All}
use Rattle.tk_edge.specs.Readings.{last_moment}
use Rattle.tk_journal.specs.declared.entry.Entry.{Entry}

-- it grew by such entries alone
pub record GrowsBy (Such : Entry → Type 0) (history after : List Entry) : Type 0 where
  pub new : List Entry
  pub grown : after ≡ new ++ history
  pub such : All Such new

-- an entry of a member, whose moment a clock may give
abbrev pub IsOwn : (Entry → Bool) → Entry → Type 0
IsOwn mine e = (mine e ≡ true) × (e.moment ≤ last_moment)

-- an entry of one of so many members of a kind, by their places
abbrev pub OfOne : (ℕ → Entry → Bool) → ℕ → Entry → Type 0
OfOne mine count e = (number : ℕ) × (number < count) × IsOwn (mine number) e

-- no entry is of two members of a kind
abbrev pub AreDistinct : (ℕ → Entry → Bool) → Type 0
AreDistinct mine = (i j : ℕ) (e : Entry) → i ≢ j → mine i e ≡ true → mine j e ≡ false

-- nor of members of two kinds
abbrev pub AreTwoKinds : (ℕ → Entry → Bool) → (ℕ → Entry → Bool) → Type 0
AreTwoKinds mine theirs = (i j : ℕ) (e : Entry) → (mine i e ≡ true → theirs j e ≡ false) × (theirs j e ≡ true → mine i e ≡ false)
