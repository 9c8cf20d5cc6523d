use Rattle.std.proofs.Common.{subst, sym}
use Rattle.std.proofs.lemmas.List.Elements.{All-map}
use Rattle.tk_types.specs.declared.value.Pair.{Pair}
use Rattle.tk_vars.specs.Reading.{HasReading}
use Rattle.tk_spec_sound.proofs.Answers.{no_is, refused_by, yes_is}
use Rattle.tk_spec_sound.proofs.Every.{all_done, all_mapped, all_more, not_each}
use Rattle.tk_spec_sound.proofs.texts.pairs_read.Goals as goal

pub loop-pair-preserved : goal.loop-pair-preserved
loop-pair-preserved c =
    all_more (λ (p : Pair). HasReading p.value) c.args.pairs.now c.loop-pair.pair-index c.pair-item.result c.loop-pair-test.true c.pair-item.is c.loop-pair.invariant (subst HasReading c.as_str.ensures (c.in_ok-reads.ensures.0 c.if-not-branch.false))

pub returns : goal.returns
returns c = yes_is (All-map HasReading (λ (p : Pair). p.value) c.args.pairs.now (all_done (λ (p : Pair). HasReading p.value) c.args.pairs.now c.loop-pair.pair-index c.loop-pair-test.false c.loop-pair.invariant))

pub returns-then-not-branch : goal.returns-then-not-branch
returns-then-not-branch c =
    no_is (λ each. not_each (λ (p : Pair). HasReading p.value) c.args.pairs.now c.loop-pair.pair-index c.pair-item.result c.loop-pair-test.true c.pair-item.is (λ r. refused_by c.in_ok-reads.field-0 c.in_ok-reads.ensures c.if-not-branch.true (subst HasReading (sym c.as_str.ensures) r)) (all_mapped HasReading (λ (p : Pair). p.value) c.args.pairs.now each))
