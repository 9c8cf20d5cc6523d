use Rattle.std.proofs.Common.{◌≡◌, ◌++◌, take}
use Rattle.tk_bind.proofs.completing.extend.Given as goal

-- the pairs so far are added
abbrev pub invariant-loop-pair : goal.invariant-loop-pair
invariant-loop-pair l = l.all.items ≡ l.initial.all.items ++ take l.pair-index l.pairs
