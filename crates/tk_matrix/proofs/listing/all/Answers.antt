use Rattle.std.proofs.Common.{arith}
use Rattle.std.proofs.lemmas.List.FromFn.{map-range_with_len_more}
use Rattle.tk_matrix.specs.Combinations.{combination}
use Rattle.tk_matrix.proofs.listing.all.Goals as goal

pub loop-index-preserved : goal.loop-index-preserved
loop-index-preserved c =
    let i = c.loop-index.index in
    cc (map-range_with_len_more (combination c.args.matrix.now) 0 i i (omega arith), c.in_ok-push.ensures.ok, c.in_ok-combination.ensures, c.loop-index.invariant)
