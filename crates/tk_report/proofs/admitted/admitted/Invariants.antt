use Rattle.std.specs.Prelude.{◌≡◌, map}
use Rattle.tk_journal.specs.History.{past}
use Rattle.tk_report.specs.Admitted.{named}
use Rattle.tk_report.specs.Objects.{admitted}
use Rattle.tk_report.proofs.admitted.admitted.Given as goal

-- all that the entries so far admit
abbrev pub invariant-loop-place : goal.invariant-loop-place
invariant-loop-place l = map named l.found.items ≡ admitted (past l.place l.journal.history)
