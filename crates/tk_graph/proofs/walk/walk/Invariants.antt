use Rattle.std.proofs.Common.{◌≡◌, suc, ◌-◌, ◌<◌, length}
use Rattle.tk_graph.specs.Cycle.{walk as walk_of}
use Rattle.tk_graph.specs.Removal.{is_left, parents_at, walked_from}
use Rattle.tk_graph.proofs.WalkSteps.{IsMarked}
use Rattle.tk_graph.proofs.walk.walk.Given as goal

-- the path has a place for each step, and the rest of the walk gives the answer
abbrev pub invariant-loop-step : goal.invariant-loop-step
invariant-loop-step l =
    record {
      steps : length l.path.items ≡ l.step;
      here : l.place < length l.above;
      marked : IsMarked (length l.above) l.path.items l.coming.items;
      goes : walk_of (parents_at l.above) (is_left l.ranks) (suc (length l.above) - l.step) l.path.items l.place ≡ walked_from (parents_at l.above) (is_left l.ranks) (length l.above) l.fn.first;
    }
