use Rattle.std.proofs.Common.{◌≡◌, take, fold}
use Rattle.tk_bind.specs.Bind.{with_pair}
use Rattle.tk_bind.proofs.completing.with_each.Given as goal

-- the pairs with the defaults so far
abbrev pub invariant-loop-pair : goal.invariant-loop-pair
invariant-loop-pair l = l.pairs.items ≡ fold with_pair l.initial.pairs.items (take l.pair-index l.defaults)
