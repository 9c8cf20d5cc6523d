use Rattle.tk_lives.proofs.Walks.{Left}
use Rattle.tk_lives.proofs.differing.first_difference.Given as goal

abbrev pub invariant-loop-place : goal.invariant-loop-place
invariant-loop-place l = Left l.journal.history l.given l.place
