use Rattle.std.proofs.Common.{subst, sym}
use Rattle.tk_taken_names.specs.Taken.{IsNew}
use Rattle.tk_taken_names.proofs.Answers.{all_done, all_more, no_is, not_each, refused_by, yes_is}
use Rattle.tk_taken_names.proofs.taken.TakenNames.each_is_new.Goals as goal

pub loop-name-preserved : goal.loop-name-preserved
loop-name-preserved c =
    let New = IsNew c.args.self.now in
    all_more New c.args.names.now c.loop-name.name-index c.name-item.result c.loop-name-test.true c.name-item.is c.loop-name.invariant
    (subst New c.as_str.ensures (c.is_new.ensures.0 c.if-not-is_new.false))

pub returns : goal.returns
returns c = yes_is (all_done (IsNew c.args.self.now) c.args.names.now c.loop-name.name-index c.loop-name-test.false c.loop-name.invariant)

pub returns-then-not-is_new : goal.returns-then-not-is_new
returns-then-not-is_new c =
    let New = IsNew c.args.self.now in
    no_is (λ each. not_each New c.args.names.now c.loop-name.name-index c.name-item.result c.loop-name-test.true c.name-item.is
    (λ new. refused_by c.is_new.result c.is_new.ensures c.if-not-is_new.true (subst New (sym c.as_str.ensures) new)) each)
