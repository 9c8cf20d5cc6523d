-- A journal file that is open.
use Rattle.std.specs.Prelude.{◌≡◌, ℕ, Bool, true, List}
use Rattle.tk_journal.specs.declared.entry.Entry.{Entry}
use Rattle.tk_durable.specs.Journal.{Stands}

-- what a contract sees of it
pub record DurableValue (D : Type 0) : Type 0 where
  pub disk : D
  pub sound : Bool

-- while it is sound, a disk that tells holds the journal of some entries, whose last gate stands here
abbrev pub IsSettled : {D : Type 0} → (D → Type 0) → (D → List ℕ) → (D → List ℕ → Type 0) → D → ℕ → Bool → Type 0
IsSettled tells content images disk gate sound = sound ≡ true → tells disk → (entries : List Entry) × Stands entries (content disk) (images disk) gate
