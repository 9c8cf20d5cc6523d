use Rattle.std.proofs.Common.{◌≡◌, map}
use Rattle.std.specs.List.{range_with_len}
use Rattle.tk_matrix.specs.Combinations.{combination}
use Rattle.tk_matrix.proofs.listing.all.Given as goal

abbrev pub invariant-loop-index : goal.invariant-loop-index
invariant-loop-index l = l.made ≡ map (combination l.matrix) (range_with_len 0 l.index)
