use Rattle.std.specs.Prelude.{◌≡◌}
use Rattle.tk_journal.specs.History.{past, version_of}
use Rattle.tk_journal.proofs.journal.Journal.version_of.Given as goal

abbrev pub invariant-loop-place : goal.invariant-loop-place
invariant-loop-place l = l.version ≡ version_of l.kind l.name (past l.place l.self.history)
