use Rattle.tk_machine.specs.State.{kubelet_events}
use Rattle.tk_world.proofs.Steps.{took_next}
use Rattle.tk_world.proofs.world.World.kubelets_turns.Goals as goal

pub loop-i-preserved : goal.loop-i-preserved
loop-i-preserved c = took_next kubelet_events c.loop-i.i c.args.self.now c.loop-i.self c.kubelet_turns.new.self c.loop-i.invariant c.in_ok-kubelet_turns.ensures
