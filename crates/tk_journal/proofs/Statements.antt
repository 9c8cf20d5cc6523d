-- The laws, as they are stated.
use Rattle.std.proofs.Common.{◌≡◌, ◌≤◌, ℕ, List, Some, ◌∙◌, ap, subst}
use Rattle.tk_journal.specs.declared.entry.Entry.{Entry}
use Rattle.tk_journal.specs.History.{past, run_of}
use Rattle.tk_journal.specs.Legal.{IsLegal}
use Rattle.tk_verdict.specs.Moves.{IsSettled}
use Rattle.tk_journal.specs.Right.{facts_at}
use Rattle.tk_journal.specs.Grows.{Grows}
use Rattle.tk_journal.specs.Laws.{EndedStays, RunsGrow, LabelsStay, Lasts, LegalIsRight}
use Rattle.tk_journal.proofs.Past.{past_past}
use Rattle.tk_journal.proofs.Claimed.{grows_past, legal_past}
use Rattle.tk_journal.proofs.Induction as laws_of
use Rattle.tk_journal.proofs.Settled as settled
use Rattle.tk_journal.proofs.Stuck as stuck
use Rattle.tk_journal.proofs.Weighed as weighed
use Rattle.tk_journal.specs.Weight.{WithinWeight}
use Rattle.tk_journal.proofs.Apart.{children_apart}
use Rattle.tk_journal.proofs.Children.{own_children}
use Rattle.tk_journal.specs.Progress.{NeverStuck}
use Rattle.tk_verdict.specs.Gives.{label_of}

between : (history : List Entry) → IsLegal history → (n m : ℕ) → n ≤ m → Grows (past n history) (past m history)
between history legal n m le = subst (λ (old : List Entry). Grows old (past m history)) (past_past n m history le) (grows_past n (past m history) (legal_past m history legal))

pub ended_stays : EndedStays
ended_stays = record {
  runs = λ history legal n m le name run there closed. let later = (between history legal n m le).runs name run there in later.is ∙ ap Some (later.has.closed closed);
  task_runs = λ history legal n m le name task_run there closed. let later = (between history legal n m le).task_runs name task_run there in later.is ∙ ap Some (later.has.closed closed);
  attempts = λ history legal n m le name task_run place attempt there at ended. let later = (between history legal n m le).task_runs name task_run there in record { it = later.it; is = later.is; has = later.has.kept place attempt at ended };
  pods = λ history legal n m le name pod there ended. let later = (between history legal n m le).pods name pod there in later.is ∙ ap Some (later.has.ended ended);
}

pub run_grows : RunsGrow
run_grows history legal n m le = (between history legal n m le).runs

pub label_stays : LabelsStay
label_stays history legal n m le name task run later =
    subst (λ (old : List Entry). run_of old name ≡ Some run → run_of (past m history) name ≡ Some later → IsSettled (facts_at old run) task → label_of (facts_at (past m history) later) task ≡ label_of (facts_at old run) task)
    (past_past n m history le) (settled.label_stays n (past m history) (legal_past m history legal) name task run later)

pub lasting : Lasts
lasting history legal n = (laws_of.lasting (past n history) (legal_past n history legal), own_children (past n history) (legal_past n history legal))

pub legal_is_right : LegalIsRight
legal_is_right history legal n = laws_of.legal_is_right history legal n

pub never_stuck : NeverStuck
never_stuck history legal is_open number life moment = stuck.never_stuck history legal number life moment (children_apart history legal) is_open

pub within_weight : WithinWeight
within_weight = weighed.within_weight
