use Rattle.std.specs.Prelude.{◌≡◌}
use Rattle.tk_journal.specs.History.{past}
use Rattle.tk_summary.specs.Summary.{count_of}
use Rattle.tk_summary.proofs.counting.count.Given as goal

-- the entries so far are counted
abbrev pub invariant-loop-place : goal.invariant-loop-place
invariant-loop-place l = l.count ≡ count_of l.what (past l.place l.journal.history)
