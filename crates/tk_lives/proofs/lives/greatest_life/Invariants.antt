use Rattle.std.proofs.Common.{◌≡◌}
use Rattle.tk_journal.specs.History.{past}
use Rattle.tk_lives.specs.Lives.{greatest_life}
use Rattle.tk_lives.proofs.lives.greatest_life.Given as goal

abbrev pub invariant-loop-place : goal.invariant-loop-place
invariant-loop-place l = l.greatest ≡ greatest_life l.number (past l.place l.journal.history)
