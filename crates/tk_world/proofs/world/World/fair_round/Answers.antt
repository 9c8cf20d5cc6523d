use Rattle.std.proofs.lemmas.Result.{on_ok_weaker}
use Rattle.tk_world.proofs.Steps.{round_of}
use Rattle.tk_world.proofs.world.World.fair_round.Goals as goal

pub returns : goal.returns
returns c = on_ok_weaker c.kubelets_turns.result (λ kubelets. round_of c.args.self.now c.controllers_turns.new.self c.kubelets_turns.new.self c.in_ok-controllers_turns.ensures kubelets) c.kubelets_turns.ensures
