use Rattle.std.proofs.Common.{sym, subst}
use Rattle.tk_types.specs.declared.task.Step.{Step}
use Rattle.tk_bind.specs.Readings.{ReadsStep}
use Rattle.tk_shape.proofs.steps.steps_have_values.Goals as goal

pub step_has_values-requires : goal.step_has_values-requires
step_has_values-requires g c =
    let P : Step → Type 0 = λ step. ReadsStep step in
    subst P (sym c.step-item.is) (c.requires c.loop-step.step-index c.step-item.result c.loop-step-test.true)
