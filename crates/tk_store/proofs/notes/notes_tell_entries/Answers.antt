use Rattle.tk_store.proofs.Noted.{notes_grown, notes_same}
use Rattle.tk_store.proofs.notes.notes_tell_entries.Goals as goal

pub returns-clause-same : goal.returns-clause-same
returns-clause-same c = notes_same

pub returns-clause-grown : goal.returns-clause-grown
returns-clause-grown c = notes_grown
