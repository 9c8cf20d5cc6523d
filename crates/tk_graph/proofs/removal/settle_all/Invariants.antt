use Rattle.std.proofs.Common.{◌≡◌, ◌⊎◌, ℕ, ◌<◌, ◌≤◌, true, length, take}
use Rattle.tk_graph.specs.Cycle.{is_among}
use Rattle.tk_graph.specs.Removal.{IsRemoving, Waits}
use Rattle.tk_graph.proofs.removal.settle_all.Given as goal

-- the tasks so far are settled
abbrev pub invariant-loop-task : goal.invariant-loop-task
invariant-loop-task l =
    record {
      removing : IsRemoving l.above l.removal.ranks.items l.removal.removed.items l.removal.cursors.items;
      more : length l.initial.removal.removed.items ≤ length l.removal.removed.items;
      settled : (step place : ℕ) → step ≤ length l.initial.removal.removed.items → place < length l.above
          → (is_among (take l.task-index l.tasks) place ≡ true) ⊎ Waits l.above l.initial.removal.ranks.items l.initial.removal.cursors.items step place
          → Waits l.above l.removal.ranks.items l.removal.cursors.items step place;
    }
