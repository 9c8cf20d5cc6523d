-- Journals of entries as the turn lock sees them.
use Rattle.std.specs.Prelude.{◌≡◌, ◌≤◌, ℕ, List}
use Rattle.tk_edge.specs.Readings.{last_moment}
use Rattle.tk_turn.specs.Claims.{Note}
use Rattle.tk_journal.specs.declared.entry.Entry.{Entry}
use Rattle.tk_store.specs.Notes.{note_of, notes_of}

-- it holds of the history whose notes these are
abbrev pub Over : (List Entry → Type 0) → List Note → Type 0
Over P notes = (history : List Entry) × (notes ≡ notes_of history) × P history

-- the note is that of an entry whose moment a clock may give
abbrev pub IsTimely : ℕ → Note → Type 0
IsTimely owner note = (e : Entry) × (note ≡ note_of e) × (e.moment ≤ last_moment)
