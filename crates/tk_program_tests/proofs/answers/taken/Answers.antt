use Rattle.std.proofs.Common.{◌+◌, drop, length, refl, subst}
use Rattle.std.proofs.lemmas.Option.{slice_get_read}
use Rattle.tk_world.specs.Goes.{MayTakeAll}
use Rattle.tk_world.proofs.Clock.{may_next}
use Rattle.tk_world.proofs.Steps.{drop_next}
use Rattle.tk_program_tests.proofs.answers.taken.Goals as goal

pub loop-event-preserved : goal.loop-event-preserved
loop-event-preserved c =
    let there = slice_get_read c.args.events.now (length c.args.events.now) c.loop-event.event-index c.event-item.result refl c.loop-event-test.true c.event-item.is in
    record {
      stands = c.in_ok-step.ensures.ok.goes.stays.stands;
      may = may_next c.event-item.result (drop (c.loop-event.event-index + 1) c.args.events.now) c.loop-event.now c.step.new.self c.in_ok-step.ensures.ok
          (subst (MayTakeAll c.loop-event.now) (drop_next c.args.events.now c.loop-event.event-index c.event-item.result there) c.loop-event.invariant.may);
    }
