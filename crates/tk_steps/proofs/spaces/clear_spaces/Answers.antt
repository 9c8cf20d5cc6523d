use Rattle.std.proofs.Common.{◌∙◌}
use Rattle.tk_steps.proofs.Moved.{moves_then}
use Rattle.tk_steps.proofs.spaces.clear_spaces.Goals as goal

pub returns-in_err-clear_space-clause-moves : goal.returns-in_err-clear_space-clause-moves
returns-in_err-clear_space-clause-moves g c = moves_then _ _ _ _ _ _ _ c.loop-place.invariant.moves c.clear_space.ensures.moves

pub loop-place-preserved : goal.loop-place-preserved
loop-place-preserved g c = record {
  moves = moves_then _ _ _ _ _ _ _ c.loop-place.invariant.moves c.clear_space.ensures.moves;
  quiet = c.clear_space.ensures.quiet ∙ c.loop-place.invariant.quiet;
  killed = c.clear_space.ensures.killed ∙ c.loop-place.invariant.killed;
  watches = c.clear_space.ensures.watches ∙ c.loop-place.invariant.watches;
  plays = c.clear_space.ensures.plays ∙ c.loop-place.invariant.plays;
  count = c.in_ok-clear_space.ensures.count ∙ c.loop-place.invariant.count;
}
