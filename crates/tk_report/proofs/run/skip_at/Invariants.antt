use Rattle.std.proofs.Common.{◌≡◌, drop}
use Rattle.tk_report.specs.Report.{skip_at}
use Rattle.tk_report.proofs.run.skip_at.Given as goal

-- it is among those that are left
abbrev pub invariant-loop-skip : goal.invariant-loop-skip
invariant-loop-skip l = skip_at l.place (drop l.skip-index l.skips) ≡ skip_at l.place l.skips
