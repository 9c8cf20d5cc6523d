use Rattle.std.proofs.Common.{◌≡◌, ◌&&◌, ℕ, ◌<◌, [], length, nat_lt, slice_index_or}
use Rattle.tk_graph.specs.Cycle.{is_among}
use Rattle.tk_graph.specs.Removal.{parents_at}
use Rattle.tk_graph.proofs.below.children.Given as goal

-- the tasks so far are among their parents' children
abbrev pub invariant-loop-task : goal.invariant-loop-task
invariant-loop-task l =
    record {
      count : length l.below.items ≡ length l.above;
      made : (parent child : ℕ) → parent < length l.above
          → is_among (slice_index_or l.below.items parent []) child ≡ (nat_lt child l.task && is_among (parents_at l.above child) parent);
    }
