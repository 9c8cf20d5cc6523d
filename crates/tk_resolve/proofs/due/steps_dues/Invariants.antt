use Rattle.std.proofs.Common.{◌≡◌, take}
use Rattle.std.specs.List.{flat_map}
use Rattle.tk_resolve.specs.Due.{seen, step_dues}
use Rattle.tk_resolve.proofs.due.steps_dues.Given as goal

-- the texts of the steps so far
abbrev pub invariant-loop-step : goal.invariant-loop-step
invariant-loop-step l = seen l.made.items ≡ flat_map step_dues (take l.step-index l.steps)
