use Rattle.std.proofs.Common.{◌≡◌, ◌==◌, ◌&&◌, ◌||◌, ℕ, ◌<◌, [], length, take, slice_index_or}
use Rattle.tk_graph.specs.Cycle.{is_among}
use Rattle.tk_graph.proofs.below.add_child.Given as goal

-- the task is among the children of its parents so far
abbrev pub invariant-loop-parent : goal.invariant-loop-parent
invariant-loop-parent l =
    record {
      count : length l.below.items ≡ length l.initial.below.items;
      added : (parent child : ℕ) → parent < length l.initial.below.items
          → is_among (slice_index_or l.below.items parent []) child ≡ (is_among (slice_index_or l.initial.below.items parent []) child || (child == l.task && is_among (take l.parent-index l.parents) parent));
    }
