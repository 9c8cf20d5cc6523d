use Rattle.std.proofs.Common.{ap, ◌∙◌, arith}
use Rattle.tk_types.specs.declared.run.Child.{Child}
use Rattle.tk_verdict.proofs.Indexes.{all_rise, counts_differ, index_differs}
use Rattle.tk_verdict.proofs.children.rise_to.Goals as goal
use denote.Bor.{Bor}

pub returns-then-children-count : goal.returns-then-children-count
returns-then-children-count c = counts_differ c.args.children.now c.args.count (λ same. omega (arith, c.if-children-count.true, same))

pub returns-then-child-place : goal.returns-then-child-place
returns-then-child-place c =
    index_differs c.args.children.now c.args.count c.loop-place.place c.index-children-place.result c.loop-place-test.true (omega (arith, c.if-children-count.false))
    (λ same. let is = ap (λ (b : Bor Child). b.now.index) c.index-children-place.is in c.if-child-place.true (is ∙ same))

pub returns : goal.returns
returns c =
    all_rise c.args.children.now c.args.count (omega (arith, c.if-children-count.false))
    (λ k d lt. c.loop-place.invariant k d (let f = c.loop-place-test.false in let g = c.if-children-count.false in omega arith))
