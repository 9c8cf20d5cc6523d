use Rattle.tk_steps.proofs.Moved.{moves_then}
use Rattle.tk_steps.proofs.arming.arm_steps.Goals as goal

pub returns-clause-moves : goal.returns-clause-moves
returns-clause-moves g c = moves_then _ _ _ _ _ _ _ c.make_ready.ensures.moves c.launch_rest.ensures.moves
