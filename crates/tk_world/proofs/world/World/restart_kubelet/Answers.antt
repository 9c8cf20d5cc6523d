use Rattle.std.proofs.Common.{[], ◌∷◌, refl, subst}
use Rattle.std.specs.Prelude.{OnOk, slice_set}
use Rattle.std.proofs.lemmas.Result.{on_ok_weaker}
use Rattle.tk_types.specs.declared.scenario.Event.TheVariants as events
use Rattle.tk_types.specs.declared.scenario.Viewer.TheVariants as viewers
use Rattle.tk_world.specs.Goes.{Goes}
use Rattle.tk_world.specs.Stepped.{RestartsNodes}
use Rattle.tk_world.specs.Whole.{Whole, whole_of}
use Rattle.tk_world.proofs.Inside.{node_at, stands_inside}
use Rattle.tk_world.proofs.Restarted.{kubelet_restarts}
use Rattle.tk_world.proofs.world.World.restart_kubelet.Goals as goal

pub returns-clause-ok : goal.returns-clause-ok
returns-clause-ok c =
    subst (λ (w : Whole). OnOk c.restart.result (Goes (events.Restart (viewers.Kubelet c.args.i) ∷ []) w
    (whole_of c.self.inside.store c.self.inside.clock c.self.inside.controllers.items (slice_set c.self.inside.nodes.items c.args.i c.restart.new.self) c.self.inside.scripts c.self.inside.watch))) c.self.view_is
    (on_ok_weaker c.restart.result (λ restarted.
    kubelet_restarts c.self.inside.store c.self.inside.clock c.self.inside.controllers.items c.self.inside.nodes.items c.self.inside.scripts c.self.inside.watch (stands_inside (whole_of c.self.inside.store c.self.inside.clock c.self.inside.controllers.items c.self.inside.nodes.items c.self.inside.scripts c.self.inside.watch) c.args.self.now c.self.view_is c.requires.world) c.args.i c.index_mut-node.result.now c.restart.new.self
    (node_at (whole_of c.self.inside.store c.self.inside.clock c.self.inside.controllers.items c.self.inside.nodes.items c.self.inside.scripts c.self.inside.watch) c.args.self.now c.self.view_is c.requires.world c.args.i c.index_mut-node.result.now c.requires.place c.index_mut-node.ensures.value) restarted)
    c.restart.ensures.ok)

pub returns-clause-nodes : goal.returns-clause-nodes
returns-clause-nodes c =
    subst (λ (w : Whole). OnOk c.restart.result (RestartsNodes (viewers.Kubelet c.args.i) w
    (whole_of c.self.inside.store c.self.inside.clock c.self.inside.controllers.items (slice_set c.self.inside.nodes.items c.args.i c.restart.new.self) c.self.inside.scripts c.self.inside.watch))) c.self.view_is
    (on_ok_weaker c.restart.result (λ restarted. record {
      node = c.index_mut-node.result.now;
      at = (node_at (whole_of c.self.inside.store c.self.inside.clock c.self.inside.controllers.items c.self.inside.nodes.items c.self.inside.scripts c.self.inside.watch) c.args.self.now c.self.view_is c.requires.world c.args.i c.index_mut-node.result.now c.requires.place c.index_mut-node.ensures.value);
      now = c.restart.new.self;
      behind = refl;
      how = restarted;
    }) c.restart.ensures.ok)
