use Rattle.std.proofs.Common.{◌∙◌, [], ℕ, List, ap, refl}
use Rattle.tk_kubelet.specs.Holding.{holding_of}
use Rattle.tk_world.proofs.Started.{new_plays}
use Rattle.tk_world.proofs.node.Node.new.Goals as goal

pub returns : goal.returns
returns c = record {
  unseen = c.empty.ensures;
  life = refl;
  kubelet = c.new-3.ensures ∙ ap (λ (root : List ℕ). holding_of c.args.number 1 root []) c.in_ok-root.ensures;
  told = c.in_ok-host.ensures.told;
  killed = c.in_ok-host.ensures.killed;
  plays = new_plays c.in_ok-host.host.failing c.in_ok-host.host.scripts c.in_ok-from_str.field-0 c.in_ok-scripts.scripts c.args.scripts.now
      (c.in_ok-host.ensures.failing ∙ c.new.ensures) c.in_ok-host.ensures.scripts c.in_ok-from_str.ensures c.in_ok-scripts.ensures;
}
