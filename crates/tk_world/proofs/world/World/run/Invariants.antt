use Rattle.std.proofs.Common.{take, drop}
use Rattle.tk_world.specs.Goes.{MayTakeAll, Runs}
use Rattle.tk_world.proofs.world.World.run.Given as goal

-- the events so far are taken, and those that are left may come
abbrev pub invariant-loop-event : goal.invariant-loop-event
invariant-loop-event l = record {
  runs : Runs (take l.event-index l.given) l.initial.self l.self;
  may : MayTakeAll l.self (drop l.event-index l.given);
}
