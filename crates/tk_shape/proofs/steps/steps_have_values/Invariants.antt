use Rattle.std.proofs.Common.{◌≡◌, drop}
use Rattle.std.specs.List.{list_all}
use Rattle.tk_shape.specs.Fits.{step_has_values}
use Rattle.tk_shape.proofs.steps.steps_have_values.Given as goal

-- the steps that are left decide
abbrev pub invariant-loop-step : goal.invariant-loop-step
invariant-loop-step g l = list_all (step_has_values (g.S.Shapes.env l.shapes)) (drop l.step-index l.steps) ≡ list_all (step_has_values (g.S.Shapes.env l.shapes)) l.steps
