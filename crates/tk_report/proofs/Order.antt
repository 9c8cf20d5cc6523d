-- What is admitted at the next position.
use Rattle.std.proofs.Common.{◌≡◌, ℕ, ◌+◌, ◌≤◌, List, [], ◌++◌, length, Some, ap, sym}
use Rattle.tk_journal.specs.declared.entry.Entry.{Entry}
use Rattle.tk_journal.specs.Journal.{entry_at}
use Rattle.tk_journal.specs.History.{past}
use Rattle.tk_journal.proofs.Past.{past_whole}
use Rattle.tk_journal.proofs.Positions.{past_none, past_step}
use Rattle.tk_report.specs.Objects.{admitted, admitted_by}

pub admitted_none : (history : List Entry) → admitted (past 0 history) ≡ []
admitted_none history = ap admitted (past_none history)

pub admitted_next : (history : List Entry) (place : ℕ) (e : Entry) → entry_at (place + 1) history ≡ Some e
    → admitted (past place history) ++ admitted_by e.act ≡ admitted (past (place + 1) history)
admitted_next history place e at = sym (ap admitted (past_step place e history at))

pub admitted_all : (history : List Entry) (place : ℕ) → length history ≤ place → admitted (past place history) ≡ admitted history
admitted_all history place within = ap admitted (past_whole place history within)
