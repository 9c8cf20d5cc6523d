use Rattle.std.proofs.Common.{drop}
use Rattle.tk_world.specs.Goes.{MayTakeAll}
use Rattle.tk_world.specs.Whole.{IsWorld}
use Rattle.tk_program_tests.proofs.answers.taken.Given as goal

-- the events that are left may come
abbrev pub invariant-loop-event : goal.invariant-loop-event
invariant-loop-event l = record {
  stands : IsWorld l.now;
  may : MayTakeAll l.now (drop l.event-index l.events);
}
