use Rattle.std.proofs.Common.{◌≡◌, [], replicate}
use Rattle.tk_graph.proofs.below.empty_lists.Given as goal

-- as many empty lists as iterations
abbrev pub invariant-loop-i : goal.invariant-loop-i
invariant-loop-i l = l.lists.items ≡ replicate l._i []
