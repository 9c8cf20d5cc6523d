use Rattle.tk_bind.specs.Readings.{ReadsStep}
use Rattle.tk_spec_sound.proofs.Answers.{no_is, refused_by, yes_is}
use Rattle.tk_spec_sound.proofs.Every.{all_done, all_more, not_each}
use Rattle.tk_spec_sound.proofs.texts.steps_read.Goals as goal

pub loop-step-preserved : goal.loop-step-preserved
loop-step-preserved c =
    all_more ReadsStep c.args.steps.now c.loop-step.step-index c.step-item.result c.loop-step-test.true c.step-item.is c.loop-step.invariant (c.in_ok-step_reads.ensures.0 c.if-not-branch.false)

pub returns : goal.returns
returns c = yes_is (all_done ReadsStep c.args.steps.now c.loop-step.step-index c.loop-step-test.false c.loop-step.invariant)

pub returns-then-not-branch : goal.returns-then-not-branch
returns-then-not-branch c =
    no_is (λ each. not_each ReadsStep c.args.steps.now c.loop-step.step-index c.step-item.result c.loop-step-test.true c.step-item.is (refused_by c.in_ok-step_reads.field-0 c.in_ok-step_reads.ensures c.if-not-branch.true) each)
