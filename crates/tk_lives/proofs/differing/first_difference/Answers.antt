use Rattle.std.proofs.Common.{◌<◌, ◌≤◌, length, sym, ◌∙◌, arith}
use Rattle.tk_lives.proofs.Walks.{left_differs, left_more, left_none}
use Rattle.tk_lives.proofs.differing.first_difference.Goals as goal

pub loop-place-preserved : goal.loop-place-preserved
loop-place-preserved c =
    let less : c.loop-place.place < length c.args.journal.now.history = omega (arith, c.loop-place-test.true, c.len-place-end.ensures.value) in
    left_more c.args.journal.now.history c.args.given.now c.loop-place.place c.entry.result.now less c.entry.ensures c.loop-place.invariant
    (sym c.in_ok-fits_at.ensures.fits ∙ c.if-not-branch.false) (c.in_ok-fits_at.ensures.first c.if-not-branch.false)

pub returns-then-not-branch-clause-place : goal.returns-then-not-branch-clause-place
returns-then-not-branch-clause-place c =
    let less : c.loop-place.place < length c.args.journal.now.history = omega (arith, c.loop-place-test.true, c.len-place-end.ensures.value) in
    sym (left_differs c.args.journal.now.history c.args.given.now c.loop-place.place c.entry.result.now less c.entry.ensures c.loop-place.invariant
    (sym c.in_ok-fits_at.ensures.fits ∙ c.if-not-branch.true))

pub returns-clause-none : goal.returns-clause-none
returns-clause-none c none =
    let over : length c.args.journal.now.history ≤ c.loop-place.place = omega (arith, c.loop-place-test.false, c.len-place-end.ensures.value) in
    (left_none c.args.journal.now.history c.args.given.now c.loop-place.place over c.loop-place.invariant).1

pub returns-clause-place : goal.returns-clause-place
returns-clause-place c =
    let over : length c.args.journal.now.history ≤ c.loop-place.place = omega (arith, c.loop-place-test.false, c.len-place-end.ensures.value) in
    sym (left_none c.args.journal.now.history c.args.given.now c.loop-place.place over c.loop-place.invariant).0
