-- A store's journal as the turn lock sees it: a note for each entry, with the entry's owner and its code, the oldest first.
use Rattle.std.specs.Prelude.{ℕ, ◌+◌, ◌*◌, List, map, reverse}
use Rattle.tk_turn.specs.Claims.{Note}
use Rattle.tk_journal.specs.declared.entry.Actor.{Actor}
use Rattle.tk_journal.specs.declared.entry.Actor.TheVariants as actors
use Rattle.tk_journal.specs.declared.entry.Entry.{Entry}
use Rattle.tk_journal.specs.contracts.entry.Entry.{the_row}

-- the workers of a controller have one owner, and all lives of a kubelet have one
abbrev pub controller_owner : ℕ → ℕ
controller_owner number = 2 * number + 1

abbrev pub kubelet_owner : ℕ → ℕ
kubelet_owner number = 2 * number + 2

-- who owns the entries of an actor: 0 is admission and the user
abbrev pub owner_of : Actor → ℕ
owner_of actors.Admission = 0
owner_of actors.User = 0
owner_of (actors.Runs number) = controller_owner number
owner_of (actors.Tasks number) = controller_owner number
owner_of (actors.Kubelet number life) = kubelet_owner number

abbrev pub note_of : Entry → Note
note_of e = record { owner = owner_of e.actor; body = the_row.coded.code e }

abbrev pub notes_of : List Entry → List Note
notes_of history = map note_of (reverse history)
