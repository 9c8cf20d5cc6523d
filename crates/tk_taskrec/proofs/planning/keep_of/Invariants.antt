use Rattle.std.proofs.Common.{◌≡◌, ◌+◌, ◌<◌, ◌^◌, drop}
use Rattle.std.specs.List.{enumerate_from, fold}
use Rattle.tk_journal.specs.Plan.{keep_bit, keep_of}
use Rattle.tk_taskrec.proofs.planning.keep_of.Given as goal

abbrev pub invariant-loop-place : goal.invariant-loop-place
invariant-loop-place l = (fold (λ a x. a + keep_bit x) l.keep (enumerate_from l.place (drop l.place l.steps)) ≡ keep_of l.fn.steps) × (l.keep < 2 ^ l.place)
