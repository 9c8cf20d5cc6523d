-- What a journal file stands for: the 8 bytes, for each entry an open gate, a length and a text, and a closed gate.
use Rattle.std.specs.Prelude.{◌≡◌, ◌≢◌, ◌<◌, ◌^◌, ◌⊎◌, ℕ, List, [], ◌∷◌, ◌++◌, length, All}
use Rattle.std.specs.Int.{to_le_bytes, w64}
use Rattle.tk_disk.specs.Disk.{Only}
use Rattle.tk_journal.specs.declared.entry.Entry.{Entry}
use Rattle.tk_payload.specs.Fits.{IsEntry}
use Rattle.tk_payload.specs.Forms.{entry_text}

-- the 8 bytes "TKNJRNL1"
abbrev pub head : List ℕ
head = 84 ∷ 75 ∷ 78 ∷ 74 ∷ 82 ∷ 78 ∷ 76 ∷ 49 ∷ []

-- a length as 8 bytes, least byte first, and a payload
abbrev pub sized : List ℕ → List ℕ
sized payload = to_le_bytes w64 (length payload) ++ payload

-- for each entry an open gate, the length of its text and the text
abbrev pub blocks : List Entry → List ℕ
blocks [] = []
blocks (entry ∷ entries) = (1 ∷ sized (entry_text entry)) ++ blocks entries

-- where the gate behind them stands
abbrev pub end_of : List Entry → ℕ
end_of entries = length (head ++ blocks entries)

-- the length of its text fits in 8 bytes
abbrev pub HasLength : Entry → Type 0
HasLength entry = length (entry_text entry) < 2 ^ 64

-- The file is the 8 bytes, a block for each entry, a closed gate, and whatever follows it.
pub record IsJournal (entries : List Entry) (file : List ℕ) : Type 0 where
  pub gate : ℕ
  pub behind : List ℕ
  pub is : file ≡ (head ++ blocks entries) ++ gate ∷ behind
  pub closed : gate ≢ 1
  pub each : All IsEntry entries
  pub lengths : All HasLength entries

-- the file's journal is these entries, or these and one more
abbrev pub IsWithOrWithout : List Entry → Entry → List ℕ → Type 0
IsWithOrWithout entries entry file = IsJournal entries file ⊎ IsJournal (entries ++ entry ∷ []) file

-- The disk holds the journal of these entries, whose last gate stands here, and every crash leaves what it holds.
pub record Stands (entries : List Entry) (content : List ℕ) (images : List ℕ → Type 0) (gate : ℕ) : Type 0 where
  pub journal : IsJournal entries content
  pub at : gate ≡ end_of entries
  pub only : Only content images
