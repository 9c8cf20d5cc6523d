use Rattle.std.proofs.Common.{◌^◌, ◌<◌, ◌≤◌, get_or, subst, sym, arith}
use Rattle.tk_vars.proofs.BuildFacts.{number_so_far, digit_of}
use Rattle.tk_vars.proofs.building.number_of.Goals as goal

pub overflow_mul-number : goal.overflow_mul-number
overflow_mul-number c =
    let small : c.loop-digit.number < 10 ^ 8 = subst (λ n. n < 10 ^ 8) (sym c.loop-digit.invariant) (number_so_far c.loop-digit.digit-index c.args.digits.now c.requires.digits c.requires.short c.loop-digit-test.true) in
    omega arith

pub overflow_sub-digit : goal.overflow_sub-digit
overflow_sub-digit c = (digit_of c.loop-digit.digit-index c.args.digits.now c.requires.digits c.loop-digit-test.true).0

pub overflow_add-number : goal.overflow_add-number
overflow_add-number c =
    let small : c.loop-digit.number < 10 ^ 8 = subst (λ n. n < 10 ^ 8) (sym c.loop-digit.invariant) (number_so_far c.loop-digit.digit-index c.args.digits.now c.requires.digits c.requires.short c.loop-digit-test.true) in
    let digit : get_or c.args.digits.now c.loop-digit.digit-index 0 ≤ 57 = (digit_of c.loop-digit.digit-index c.args.digits.now c.requires.digits c.loop-digit-test.true).1 in
    omega arith
