use Rattle.std.proofs.Common.{◌≡◌, None, sym, ◌∙◌, arith}
use Rattle.std.proofs.lemmas.Bool.Decides.{nat_tests}
use Rattle.tk_time.specs.Duration.{first_part}
use Rattle.tk_time.proofs.Parts.{turn, turn-over, turn-none, turn-end}
use Rattle.tk_time.proofs.reading.sum_within_limit.Goals as goal

pub returns-in_err-part : goal.returns-in_err-part
returns-in_err-part c =
    let none : first_part c.loop-rest.rest.now ≡ None = sym c.in_err-part.ensures.value in
    c.from_residual.ensures ∙ sym (turn-none c.loop-rest.sum c.loop-rest.rest.now _ c.loop-rest.invariant.whole (grind (arith, nat_tests)) none)

pub returns-then-sum-gt-LONGEST : goal.returns-then-sum-gt-LONGEST
returns-then-sum-gt-LONGEST c =
    sym (turn-over c.loop-rest.sum c.in_ok-part.part c.loop-rest.rest.now c.in_ok-part.after.now _ c.loop-rest.invariant.whole (sym c.in_ok-part.ensures.value) c.if-sum-gt-LONGEST.true)

pub loop-rest-preserved : goal.loop-rest-preserved
loop-rest-preserved c = record {
  low = c.if-sum-gt-LONGEST.false;
  whole = turn c.loop-rest.sum c.in_ok-part.part c.loop-rest.rest.now c.in_ok-part.after.now _ c.loop-rest.invariant.whole (sym c.in_ok-part.ensures.value);
}

pub returns : goal.returns
returns c = sym (turn-end c.loop-rest.sum c.loop-rest.rest.now _ c.loop-rest.invariant.whole (grind (arith, nat_tests)) c.loop-rest.invariant.low)
