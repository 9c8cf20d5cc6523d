use Rattle.std.specs.Prelude.{◌≡◌}
use Rattle.tk_journal.specs.History.{past, task_run_of}
use Rattle.tk_journal.proofs.journal.Journal.task_run_at.Given as goal

abbrev pub invariant-loop-place : goal.invariant-loop-place
invariant-loop-place l = l.task_run ≡ task_run_of (past l.place l.self.history) l.name
