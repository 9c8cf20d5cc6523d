use Rattle.std.proofs.Common.{◌≡◌, ℕ, List, refl, sym, ◌∙◌, ap, subst}
use Rattle.tk_edge.specs.declared.event.Event.{Event}
use Rattle.tk_steps.specs.declared.held.HeldPod.{HeldPod}
use Rattle.tk_held.specs.Pods.{KeepsAll}
use Rattle.tk_held.specs.Settling.{AreAllKilled, KillsHeld}
use Rattle.tk_held.proofs.Again.{all_settled}
use Rattle.tk_kubelet.specs.Holding.{Holding}
use Rattle.tk_kubelet.proofs.kubelet.Kubelet.kill_all.Goals as goal

pub kill_pods-requires : goal.kill_pods-requires
kill_pods-requires g c =
    record { keeps = subst (KeepsAll (g.H.Host.told c.args.host.now)) (sym (c.as_slice.ensures.value ∙ ap (λ (k : Holding). k.held) c.self.view_is)) c.requires.keeps }

pub returns-clause-settled : goal.returns-clause-settled
returns-clause-settled g c =
    λ history met child arming armed mine. all_settled c.args.self.now.number c.args.self.now.life c.args.self.now.root c.args.self.now.held history (g.H.Host.killed c.args.host.now) (g.H.Host.killed c.kill_pods.new.host) (g.H.Host.told c.kill_pods.new.host) (g.H.Host.told c.kill_pods.new.host) refl met (subst (AreAllKilled (g.H.Host.killed c.kill_pods.new.host)) (c.as_slice.ensures.value ∙ ap (λ (k : Holding). k.held) c.self.view_is) c.kill_pods.ensures.killed) c.kill_pods.ensures.still child arming armed mine

pub returns-clause-only : goal.returns-clause-only
returns-clause-only g c =
    subst (λ (ps : List HeldPod). KillsHeld ps (g.H.Host.killed c.args.host.now) (g.H.Host.killed c.kill_pods.new.host)) (c.as_slice.ensures.value ∙ ap (λ (k : Holding). k.held) c.self.view_is) c.kill_pods.ensures.only
