use Rattle.std.proofs.Common.{rules, ap, ◌∙◌}
use Rattle.std.specs.Prelude.{length}
use Rattle.tk_journal.specs.declared.object.Plan.{Plan}
use Rattle.tk_steps.proofs.Moved.{moves_then, plan_moves}
use Rattle.tk_steps.proofs.arming.launch_rest.Goals as goal

pub returns-in_err-launch_next-clause-moves : goal.returns-in_err-launch_next-clause-moves
returns-in_err-launch_next-clause-moves g c = moves_then _ _ _ _ _ _ _ c.loop.invariant.moves c.launch_next.ensures.moves

pub loop-preserved : goal.loop-preserved
loop-preserved g c = record {
  moves = moves_then _ _ _ _ _ _ _ c.loop.invariant.moves c.launch_next.ensures.moves;
  planned = plan_moves _ _ _ _ _ c.launch_next.ensures.moves c.loop.invariant.planned;
  ready = c.launch_next.ensures.ready;
  steps = search rules;
  orders = ap (λ (p : Plan). length p.orders) c.launch_next.ensures.moves.same_plan ∙ c.loop.invariant.orders;
  whole = c.loop.invariant.whole;
  failed = c.launch_next.ensures.failed ∙ c.loop.invariant.failed;
  quiet = c.launch_next.ensures.quiet ∙ c.loop.invariant.quiet;
  killed = c.launch_next.ensures.killed ∙ c.loop.invariant.killed;
  watches = c.launch_next.ensures.watches ∙ c.loop.invariant.watches;
  plays = c.launch_next.ensures.plays ∙ c.loop.invariant.plays;
  stays = λ so. c.launch_next.ensures.stays (c.loop.invariant.stays so);
  count = c.in_ok-launch_next.ensures.count ∙ c.loop.invariant.count;
}

pub returns-in_err-launch_next-clause-stays : goal.returns-in_err-launch_next-clause-stays
returns-in_err-launch_next-clause-stays g c so = c.launch_next.ensures.stays (c.loop.invariant.stays so)

pub returns-clause-stays : goal.returns-clause-stays
returns-clause-stays g c so = c.loop.invariant.stays so
