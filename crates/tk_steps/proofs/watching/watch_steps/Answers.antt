use Rattle.std.proofs.Common.{◌∙◌, ◌+◌, arith, refl}
use Rattle.tk_steps.proofs.Moved.{moves_then, acts_then}
use Rattle.tk_steps.proofs.Chain.{turns_then, turns_all, children_length}
use Rattle.tk_steps.proofs.Once.{child_within, pod_only, steps_only, steps_only_pod, steps_each}
use Rattle.tk_steps.specs.Watched.{children_of}
use Rattle.tk_steps.proofs.watching.watch_steps.Goals as goal

pub returns-in_err-acted-clause-moves : goal.returns-in_err-acted-clause-moves
returns-in_err-acted-clause-moves g c = moves_then _ _ _ _ _ _ _ c.loop-place.invariant.moves c.watch_step.ensures.moves

pub loop-place-preserved : goal.loop-place-preserved
loop-place-preserved g c = record {
  moves = moves_then _ _ _ _ _ _ _ c.loop-place.invariant.moves c.watch_step.ensures.moves;
  actions = acts_then _ _ _ _ _ c.loop-place.invariant.actions c.in_ok-acted.ensures.actions;
  steps = c.watch_step.ensures.steps ∙ c.loop-place.invariant.steps;
  failed = c.watch_step.ensures.failed ∙ c.loop-place.invariant.failed;
  killed = c.watch_step.ensures.killed ∙ c.loop-place.invariant.killed;
  plays = c.watch_step.ensures.plays ∙ c.loop-place.invariant.plays;
  stays = λ so. c.watch_step.ensures.stays (c.loop-place.invariant.stays so);
  count = c.in_ok-acted.ensures.count ∙ c.loop-place.invariant.count;
  children = c.watch_step.ensures.children ∙ c.loop-place.invariant.children;
  watched = λ i child below at. steps_each (g.H.Host.told c.args.host.now) c.args.pod.now c.loop-place.pod c.requires.holds c.loop-place.invariant.children (g.H.Host.watches c.args.host.now) (g.H.Host.watches c.loop-place.host) (g.H.Host.watches c.watch_step.new.host) c.loop-place.place c.loop-place.invariant.only c.watch_step.ensures.only c.loop-place.invariant.watched c.in_ok-acted.ensures.watched i child (omega (arith, below)) at;
  turns = turns_then (g.H.Host.plays c.args.host.now) (g.H.Host.killed c.args.host.now) c.args.pod.now.name (g.H.Host.plays c.loop-place.host) (g.H.Host.killed c.loop-place.host) c.loop-place.pod.name (children_of c.args.pod.now) (children_of c.loop-place.pod) c.loop-place.place (g.H.Host.told c.args.host.now) (g.H.Host.told c.loop-place.host) (g.H.Host.told c.watch_step.new.host) c.loop-place.invariant.plays c.loop-place.invariant.killed c.loop-place.invariant.moves.same_name c.loop-place.invariant.children (omega (arith, children_length c.args.pod.now)) c.loop-place.invariant.turns c.in_ok-acted.ensures.turn;
  only = steps_only (g.H.Host.told c.args.host.now) c.args.pod.now c.loop-place.pod c.requires.holds c.loop-place.invariant.children (g.H.Host.watches c.args.host.now) (g.H.Host.watches c.loop-place.host) (g.H.Host.watches c.watch_step.new.host) c.loop-place.place c.loop-place.invariant.only c.watch_step.ensures.only (c.loop-place.place + 1) refl;
}

pub returns-in_err-acted-clause-only : goal.returns-in_err-acted-clause-only
returns-in_err-acted-clause-only g c = steps_only_pod (g.H.Host.told c.args.host.now) c.args.pod.now c.loop-place.pod c.requires.holds c.loop-place.invariant.children (g.H.Host.watches c.args.host.now) (g.H.Host.watches c.loop-place.host) (g.H.Host.watches c.watch_step.new.host) c.loop-place.place c.loop-place.invariant.only c.watch_step.ensures.only

pub returns-clause-watched : goal.returns-clause-watched
returns-clause-watched g c child own = c.loop-place.invariant.watched own.place child (omega (arith, child_within c.args.pod.now own.place child own.at)) own.at

pub returns-clause-only : goal.returns-clause-only
returns-clause-only g c = pod_only c.args.pod.now c.loop-place.place (g.H.Host.watches c.args.host.now) (g.H.Host.watches c.loop-place.host) c.loop-place.invariant.only

pub returns-in_err-acted-clause-stays : goal.returns-in_err-acted-clause-stays
returns-in_err-acted-clause-stays g c so = c.watch_step.ensures.stays (c.loop-place.invariant.stays so)

pub returns-clause-stays : goal.returns-clause-stays
returns-clause-stays g c so = c.loop-place.invariant.stays so

pub returns-clause-turns : goal.returns-clause-turns
returns-clause-turns g c =
    turns_all (g.H.Host.plays c.args.host.now) (g.H.Host.killed c.args.host.now) c.args.pod.now.name (children_of c.args.pod.now) c.loop-place.place (g.H.Host.told c.args.host.now) (g.H.Host.told c.loop-place.host) (omega (arith, children_length c.args.pod.now)) c.loop-place.invariant.turns
