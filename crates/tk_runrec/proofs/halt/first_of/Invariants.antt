use Rattle.std.proofs.Common.{◌≡◌, drop}
use Rattle.std.specs.Prelude.{find}
use Rattle.tk_runrec.specs.Tests.{may_halt}
use Rattle.tk_runrec.proofs.halt.first_of.Given as goal

-- the first of all is the first of those that are left
abbrev pub invariant-loop-stop : goal.invariant-loop-stop
invariant-loop-stop l = find (may_halt l.fn.moment l.fn.run l.fn.kept.children l.fn.labels) l.fn.order ≡ find (may_halt l.fn.moment l.fn.run l.fn.kept.children l.fn.labels) (drop l.stop-index l.fn.order)
