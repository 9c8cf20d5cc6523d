use Rattle.std.proofs.Common.{arith, ◌^◌, ◌≤◌, lit<}
use Rattle.std.proofs.Math.Nat.{pow-le-pow_right}
use Rattle.tk_time.proofs.reading.number_of.Goals as goal

pub returns-clause-bound : goal.returns-clause-bound
returns-clause-bound c =
    let power : 10 ^ c.loop-digit.digit-index ≤ 10 ^ 11 = pow-le-pow_right {n = 10} (lit< tt) {i = c.loop-digit.digit-index} {j = 11} (omega arith) in
    let bound = c.loop-digit.invariant.bound in
    omega arith
