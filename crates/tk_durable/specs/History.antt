-- Journal files of histories, whose newest entry stands first.
use Rattle.std.specs.Prelude.{◌⊎◌, ℕ, List, ◌∷◌, reverse}
use Rattle.tk_disk.specs.Disk.{Only}
use Rattle.tk_journal.specs.declared.entry.Entry.{Entry}
use Rattle.tk_durable.specs.Journal.{IsJournal}

-- the file's journal is this history
abbrev pub IsFileOf : List Entry → List ℕ → Type 0
IsFileOf history file = IsJournal (reverse history) file

-- the file's journal is this history, or that with one entry more
abbrev pub IsFileWithOrWithout : List Entry → Entry → List ℕ → Type 0
IsFileWithOrWithout history entry file = IsFileOf history file ⊎ IsFileOf (entry ∷ history) file

-- The disk holds the journal file of this history, and every crash leaves it.
pub record HoldsFile (history : List Entry) (content : List ℕ) (images : List ℕ → Type 0) : Type 0 where
  pub journal : IsFileOf history content
  pub only : Only content images
