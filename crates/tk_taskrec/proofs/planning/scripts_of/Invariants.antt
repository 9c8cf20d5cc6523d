use Rattle.std.proofs.Common.{◌≡◌, map, take}
use Rattle.tk_taskrec.specs.Planned.{script_at}
use Rattle.tk_taskrec.proofs.planning.scripts_of.Given as goal

abbrev pub invariant-loop-step : goal.invariant-loop-step
invariant-loop-step l = l.scripts ≡ map script_at (take l.step-index l.steps)
