use Rattle.std.proofs.Common.{ℕ, ◌<◌, ◌≤◌, ◌-◌, length}
use Rattle.tk_graph.specs.Removal.{IsRemoving, Waits}
use Rattle.tk_graph.proofs.removal.remove.Given as goal

-- the children of the first tasks removed are settled
abbrev pub invariant-loop-next : goal.invariant-loop-next
invariant-loop-next l =
    record {
      removing : IsRemoving l.above l.removal.ranks.items l.removal.removed.items l.removal.cursors.items;
      low : l.next ≤ length l.removal.removed.items;
      waiting : (place : ℕ) → place < length l.above → Waits l.above l.removal.ranks.items l.removal.cursors.items l.next place;
    }

abbrev pub decreases-loop-next : goal.decreases-loop-next
decreases-loop-next l = length l.above - l.next
