use Rattle.std.proofs.Common.{◌≡◌, ◌++◌, take, drop}
use Rattle.tk_bind.specs.Bind.{with_pair}
use Rattle.tk_bind.proofs.completing.with_pair.Given as goal

-- the pairs stay as they are, and the new pair's place isn't among those so far
abbrev pub invariant-loop-place : goal.invariant-loop-place
invariant-loop-place l = record {
  same : l.pairs.items ≡ l.fn.pairs.items;
  behind : with_pair l.pairs.items l.pair ≡ take l.place l.pairs.items ++ with_pair (drop l.place l.pairs.items) l.pair;
}
