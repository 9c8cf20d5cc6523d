use Rattle.std.proofs.Common.{◌+◌, List, drop, length, refl, take, subst, sym}
use Rattle.std.proofs.lemmas.Option.{slice_get_read}
use Rattle.tk_types.specs.declared.scenario.Event.{Event}
use Rattle.tk_world.specs.Goes.{MayTakeAll, Runs}
use Rattle.tk_world.proofs.Clock.{may_next}
use Rattle.tk_world.proofs.Steps.{drop_next, runs_next, take_next}
use Rattle.tk_world.proofs.world.World.run.Goals as goal

pub loop-event-preserved : goal.loop-event-preserved
loop-event-preserved c =
    let there = slice_get_read c.args.given.now (length c.args.given.now) c.loop-event.event-index c.event-item.result refl c.loop-event-test.true c.event-item.is in
    record {
      runs = subst (λ (given : List Event). Runs given c.args.self.now c.step.new.self) (sym (take_next c.args.given.now c.loop-event.event-index c.event-item.result there))
          (runs_next (take c.loop-event.event-index c.args.given.now) c.event-item.result c.args.self.now c.loop-event.self c.step.new.self c.loop-event.invariant.runs c.in_ok-step.ensures.ok);
      may = may_next c.event-item.result (drop (c.loop-event.event-index + 1) c.args.given.now) c.loop-event.self c.step.new.self c.in_ok-step.ensures.ok
          (subst (MayTakeAll c.loop-event.self) (drop_next c.args.given.now c.loop-event.event-index c.event-item.result there) c.loop-event.invariant.may);
    }
