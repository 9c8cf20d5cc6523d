use Rattle.std.proofs.Common.{◌≡◌, ◌++◌, drop}
use Rattle.tk_runrec.specs.Labels.{skips_in}
use Rattle.tk_runrec.proofs.close.skips.Given as goal

abbrev pub invariant-loop-place : goal.invariant-loop-place
invariant-loop-place l = skips_in 0 l.fn.labels ≡ l.skips.items ++ skips_in l.place (drop l.place l.fn.labels)
