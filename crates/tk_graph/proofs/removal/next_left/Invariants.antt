use Rattle.std.proofs.Common.{ℕ, ◌<◌, ◌≤◌, length, slice_index}
use Rattle.tk_graph.proofs.removal.next_left.Given as goal

-- the parents so far are removed
abbrev pub invariant-loop-next : goal.invariant-loop-next
invariant-loop-next l = (k : ℕ) → l.from ≤ k → k < l.next → slice_index l.ranks (slice_index l.parents k) < length l.ranks
