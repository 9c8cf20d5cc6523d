use Rattle.tk_bind.specs.Readings.{ReadsParam}
use Rattle.tk_spec_sound.proofs.Answers.{no_is, refused_by, yes_is}
use Rattle.tk_spec_sound.proofs.Every.{all_done, all_more, not_each}
use Rattle.tk_spec_sound.proofs.texts.params_read.Goals as goal

pub loop-param-preserved : goal.loop-param-preserved
loop-param-preserved c =
    all_more ReadsParam c.args.params.now c.loop-param.param-index c.param-item.result c.loop-param-test.true c.param-item.is c.loop-param.invariant (c.in_ok-value_reads.ensures.0 c.if-not-branch.false)

pub returns : goal.returns
returns c = yes_is (all_done ReadsParam c.args.params.now c.loop-param.param-index c.loop-param-test.false c.loop-param.invariant)

pub returns-then-not-branch : goal.returns-then-not-branch
returns-then-not-branch c =
    no_is (λ each. not_each ReadsParam c.args.params.now c.loop-param.param-index c.param-item.result c.loop-param-test.true c.param-item.is (refused_by c.in_ok-value_reads.field-0 c.in_ok-value_reads.ensures c.if-not-branch.true) each)
