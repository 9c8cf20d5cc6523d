-- How a turn's answer tells what came of it.
use Rattle.std.specs.Prelude.{Bool, true, false, if◌then◌else◌}
use Rattle.tk_journal.specs.declared.entry.Entry.{Entry}
use Rattle.tk_store.specs.declared.turn.Turn.TheVariants as store_turns
use Rattle.tk_store.specs.Writes.{Stored}
use Rattle.tk_choice.specs.Took.{IsAnswered}
use Rattle.tk_held.specs.declared.running.Ran.{Ran}
use Rattle.tk_kubelet.specs.declared.kubelet.KubeletTurn.{KubeletTurn}
use Rattle.tk_kubelet.specs.declared.kubelet.KubeletTurn.TheVariants as turns

-- the answer of a turn that tries no entry
abbrev pub answer_of : Ran → KubeletTurn
answer_of ran = if ran.failed then turns.HostFault else if ran.acted then turns.Acted else turns.Idle

-- the store's answer to an entry, as the turn tells it
abbrev pub Answered : Stored → Entry → KubeletTurn → Stored → Type 0
Answered before e (turns.Wrote version) after = IsAnswered before e (store_turns.Wrote version) after
Answered before e (turns.Conflict found) after = IsAnswered before e (store_turns.Conflict found) after
Answered before e _ after = ⊥

-- the entry was written
abbrev pub is_written : KubeletTurn → Bool
is_written (turns.Wrote version) = true
is_written _ = false
