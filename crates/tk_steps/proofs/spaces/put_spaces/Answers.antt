use Rattle.std.proofs.Common.{◌∙◌}
use Rattle.std.proofs.Common.{rules}
use Rattle.tk_steps.proofs.Readies.{spaces_then}
use Rattle.tk_steps.proofs.Moved.{moves_then}
use Rattle.tk_steps.proofs.spaces.put_spaces.Goals as goal

pub returns-in_err-put_space-clause-moves : goal.returns-in_err-put_space-clause-moves
returns-in_err-put_space-clause-moves g c = moves_then _ _ _ _ _ _ _ c.loop-place.invariant.moves c.put_space.ensures.moves

pub loop-place-preserved : goal.loop-place-preserved
loop-place-preserved g c = record {
  moves = moves_then _ _ _ _ _ _ _ c.loop-place.invariant.moves c.put_space.ensures.moves;
  quiet = c.put_space.ensures.quiet ∙ c.loop-place.invariant.quiet;
  killed = c.put_space.ensures.killed ∙ c.loop-place.invariant.killed;
  watches = c.put_space.ensures.watches ∙ c.loop-place.invariant.watches;
  plays = c.put_space.ensures.plays ∙ c.loop-place.invariant.plays;
  count = c.in_ok-put_space.ensures.count ∙ c.loop-place.invariant.count;
  spaces = spaces_then c.args.root.now c.args.pod.now.name c.args.pod.now.plan c.loop-place.place _ _ c.in_ok-put_space.ensures.put (search rules) c.loop-place.invariant.spaces;
}
