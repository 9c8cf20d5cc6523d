use Rattle.std.specs.Prelude.{◌≡◌}
use Rattle.tk_journal.specs.History.{past, run_of}
use Rattle.tk_journal.proofs.journal.Journal.run_at.Given as goal

abbrev pub invariant-loop-place : goal.invariant-loop-place
invariant-loop-place l = l.run ≡ run_of (past l.place l.self.history) l.name
