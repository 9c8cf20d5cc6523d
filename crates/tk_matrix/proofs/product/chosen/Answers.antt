use Rattle.std.proofs.Common.{arith}
use Rattle.tk_matrix.proofs.Digits.{all_chosen}
use Rattle.tk_matrix.proofs.product.chosen.Goals as goal

pub returns : goal.returns
returns c =
    all_chosen c.args.params.now c.loop-param.made c.loop-param.param-index c.loop-param.rest c.args.index (omega arith) c.loop-param.invariant.1
