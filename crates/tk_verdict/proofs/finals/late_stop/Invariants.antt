use Rattle.std.proofs.Common.{◌≡◌, drop, find}
use Rattle.std.specs.Prelude.{nat_le}
use Rattle.tk_types.specs.Behaviour.{level_of}
use Rattle.tk_verdict.proofs.finals.late_stop.Given as goal

-- it is among the stops that are left
abbrev pub invariant-loop-stop : goal.invariant-loop-stop
invariant-loop-stop l = find (λ stop. nat_le 3 (level_of stop)) (drop l.stop-index l.stop-items) ≡ find (λ stop. nat_le 3 (level_of stop)) l.facts.stops
