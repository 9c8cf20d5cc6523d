use Rattle.std.proofs.Common.{subst, sym}
use Rattle.tk_vars.specs.Reading.{HasReading}
use Rattle.tk_spec_sound.proofs.Answers.{no_is, refused_by, yes_is}
use Rattle.tk_spec_sound.proofs.Every.{all_done, all_more, not_each}
use Rattle.tk_spec_sound.proofs.texts.all_read.Goals as goal

pub loop-text-preserved : goal.loop-text-preserved
loop-text-preserved c =
    all_more HasReading c.args.texts.now c.loop-text.text-index c.text-item.result c.loop-text-test.true c.text-item.is c.loop-text.invariant (subst HasReading c.as_str.ensures (c.in_ok-reads.ensures.0 c.if-not-branch.false))

pub returns : goal.returns
returns c = yes_is (all_done HasReading c.args.texts.now c.loop-text.text-index c.loop-text-test.false c.loop-text.invariant)

pub returns-then-not-branch : goal.returns-then-not-branch
returns-then-not-branch c =
    no_is (λ each. not_each HasReading c.args.texts.now c.loop-text.text-index c.text-item.result c.loop-text-test.true c.text-item.is (λ r. refused_by c.in_ok-reads.field-0 c.in_ok-reads.ensures c.if-not-branch.true (subst HasReading (sym c.as_str.ensures) r)) each)
