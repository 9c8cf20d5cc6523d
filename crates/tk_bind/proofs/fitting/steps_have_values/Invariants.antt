use Rattle.std.proofs.Common.{◌≡◌, drop}
use Rattle.std.specs.List.{list_all}
use Rattle.tk_bind.specs.Fits.{step_has_values}
use Rattle.tk_bind.proofs.fitting.steps_have_values.Given as goal

-- the steps that are left decide
abbrev pub invariant-loop-step : goal.invariant-loop-step
invariant-loop-step l = list_all (step_has_values l.lookup) (drop l.step-index l.steps) ≡ list_all (step_has_values l.lookup) l.steps
