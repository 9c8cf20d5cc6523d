use Rattle.std.proofs.Common.{◌≡◌, sum_by, take}
use Rattle.tk_early.specs.Possible.{told_count}
use Rattle.tk_admit.specs.Weight.{asks_of}
use Rattle.tk_admit.proofs.weight.all_asks.Given as goal

-- the asks of the items so far
abbrev pub invariant-loop-item : goal.invariant-loop-item
invariant-loop-item l = l.total ≡ told_count (sum_by asks_of (take l.item-index l.items))
