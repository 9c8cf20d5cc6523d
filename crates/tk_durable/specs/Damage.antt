-- Where a file has no journal, and the gate that is at fault.
use Rattle.std.specs.Prelude.{◌≡◌, ◌<◌, ◌⊎◌, ℕ, List, ◌∷◌, ◌++◌, length, All, drop, ◌+◌, Option, Some, None}
use Rattle.tk_journal.specs.declared.entry.Entry.{Entry}
use Rattle.tk_payload.specs.Fits.{IsEntry}
use Rattle.tk_payload.specs.Forms.{entry_text}
use Rattle.tk_durable.specs.Journal.{head, sized, blocks, end_of, HasLength}

-- these bytes don't begin with a whole length, payload and gate whose payload is an entry's text
abbrev pub IsBroken : List ℕ → Type 0
IsBroken tail = (entry : Entry) (gate : ℕ) (behind : List ℕ) → IsEntry entry → HasLength entry → tail ≡ sized (entry_text entry) ++ (gate ∷ behind) → ⊥

-- These bytes begin with the length of the entry's text, the text, and a gate.
pub record BeginsWith (tail : List ℕ) (entry : Entry) (len : ℕ) : Type 0 where
  pub is : tail ≡ sized (entry_text entry) ++ drop (8 + len) tail
  pub long : len ≡ length (entry_text entry)
  pub within : 8 + len < length tail
  pub is_entry : IsEntry entry
  pub fits : HasLength entry

-- the entry that these bytes begin with and the length of its text, or none where they are broken
abbrev pub IsFirstEntry : List ℕ → Option (Entry × ℕ) → Type 0
IsFirstEntry tail (Some found) = BeginsWith tail found.0 found.1
IsFirstEntry tail None = IsBroken tail

-- The block behind the gate at this offset is the entry's, and ends before the next gate.
pub record IsWholeAt (file : List ℕ) (gate : ℕ) (entry : Entry) (next : ℕ) : Type 0 where
  pub is : drop (gate + 1) file ≡ sized (entry_text entry) ++ drop next file
  pub at : next ≡ gate + (9 + length (entry_text entry))
  pub within : next < length file
  pub is_entry : IsEntry entry
  pub fits : HasLength entry

-- the entry behind the gate at this offset and the place of the next gate, or none where its block is broken
abbrev pub IsEntryAt : List ℕ → ℕ → Option (Entry × ℕ) → Type 0
IsEntryAt file gate (Some found) = IsWholeAt file gate found.0 found.1
IsEntryAt file gate None = IsBroken (drop (gate + 1) file)

-- Behind some entries there is an open gate whose block is broken.
pub record BrokenAt (offset : ℕ) (file : List ℕ) : Type 0 where
  pub entries : List Entry
  pub tail : List ℕ
  pub is : file ≡ (head ++ blocks entries) ++ 1 ∷ tail
  pub at : offset ≡ end_of entries
  pub each : All IsEntry entries
  pub lengths : All HasLength entries
  pub broken : IsBroken tail

-- the file doesn't begin with the 8 bytes and a gate
abbrev pub IsHeadless : List ℕ → Type 0
IsHeadless file = (gate : ℕ) (behind : List ℕ) → file ≡ head ++ gate ∷ behind → ⊥

-- the file has no journal, with the gate at fault, or 0 where it has no head
abbrev pub IsDamaged : ℕ → List ℕ → Type 0
IsDamaged offset file = (IsHeadless file × (offset ≡ 0)) ⊎ BrokenAt offset file
