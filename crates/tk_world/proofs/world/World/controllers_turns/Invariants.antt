use Rattle.tk_machine.specs.State.{controller_events, for_each}
use Rattle.tk_world.specs.Goes.{Took}
use Rattle.tk_world.proofs.world.World.controllers_turns.Given as goal

-- the controllers before this one have taken their turns
abbrev pub invariant-loop-i : goal.invariant-loop-i
invariant-loop-i l = Took (for_each controller_events 0 l.i) l.initial.self l.self
