use Rattle.tk_machine.specs.State.{controller_events}
use Rattle.tk_world.proofs.Steps.{took_next}
use Rattle.tk_world.proofs.world.World.controllers_turns.Goals as goal

pub loop-i-preserved : goal.loop-i-preserved
loop-i-preserved c = took_next controller_events c.loop-i.i c.args.self.now c.loop-i.self c.controller_turns.new.self c.loop-i.invariant c.in_ok-controller_turns.ensures
