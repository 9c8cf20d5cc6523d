use Rattle.std.proofs.Common.{◌≡◌, map, take}
use Rattle.tk_simulate.specs.Scripts.{script_by}
use Rattle.tk_simulate.proofs.scripts.scripts_of.Given as goal

abbrev pub invariant-loop-outcome : goal.invariant-loop-outcome
invariant-loop-outcome l = l.scripts.items ≡ map script_by (take l.outcome-index l.outcomes)
