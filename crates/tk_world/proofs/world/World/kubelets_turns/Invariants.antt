use Rattle.tk_machine.specs.State.{for_each, kubelet_events}
use Rattle.tk_world.specs.Goes.{Took}
use Rattle.tk_world.proofs.world.World.kubelets_turns.Given as goal

-- the kubelets before this one have taken their turns
abbrev pub invariant-loop-i : goal.invariant-loop-i
invariant-loop-i l = Took (for_each kubelet_events 0 l.i) l.initial.self l.self
