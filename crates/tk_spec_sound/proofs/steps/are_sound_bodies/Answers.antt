use Rattle.tk_spec_sound.specs.Parts.{IsSoundBody}
use Rattle.tk_spec_sound.proofs.Answers.{no_is, refused_by, yes_is}
use Rattle.tk_spec_sound.proofs.Every.{all_done, all_more, not_each}
use Rattle.tk_spec_sound.proofs.steps.are_sound_bodies.Goals as goal

pub loop-body-preserved : goal.loop-body-preserved
loop-body-preserved c =
    all_more (IsSoundBody c.args.start.now) c.args.bodies.now c.loop-body.body-index c.body-item.result c.loop-body-test.true c.body-item.is c.loop-body.invariant (c.in_ok-is_sound_body.ensures.0 c.if-not-branch.false)

pub returns : goal.returns
returns c = yes_is (all_done (IsSoundBody c.args.start.now) c.args.bodies.now c.loop-body.body-index c.loop-body-test.false c.loop-body.invariant)

pub returns-then-not-branch : goal.returns-then-not-branch
returns-then-not-branch c =
    no_is (λ each. not_each (IsSoundBody c.args.start.now) c.args.bodies.now c.loop-body.body-index c.body-item.result c.loop-body-test.true c.body-item.is (refused_by c.in_ok-is_sound_body.field-0 c.in_ok-is_sound_body.ensures c.if-not-branch.true) each)
