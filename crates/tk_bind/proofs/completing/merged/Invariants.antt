use Rattle.std.proofs.Common.{◌≡◌, ◌<◌, ◌++◌, true, length, get_or, take, fold}
use Rattle.std.specs.List.{list_all}
use Rattle.tk_types.specs.declared.value.Pair.{Pair}
use Rattle.tk_bind.specs.Bind.{with_pair}
use Rattle.tk_bind.specs.Completing.{is_below}
use Rattle.tk_bind.proofs.completing.merged.Given as goal

-- the defaults so far stand in their places, and what is walked over stands below the next one
abbrev pub invariant-loop-pair : goal.invariant-loop-pair
invariant-loop-pair l = record {
  joined : l.all.items ++ l.rest ≡ fold with_pair l.pairs (take l.pair-index l.defaults);
  below : (d : Pair) → l.pair-index < length l.defaults → list_all (is_below (get_or l.defaults l.pair-index d).key) l.all.items ≡ true;
}
