use Rattle.std.specs.Prelude.{◌≡◌}
use Rattle.tk_journal.specs.History.{past, pod_of}
use Rattle.tk_journal.proofs.journal.Journal.pod_at.Given as goal

abbrev pub invariant-loop-place : goal.invariant-loop-place
invariant-loop-place l = l.pod ≡ pod_of (past l.place l.self.history) l.name
