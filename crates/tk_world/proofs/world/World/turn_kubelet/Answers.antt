use Rattle.std.proofs.Common.{[], ◌∷◌, refl, subst}
use Rattle.std.specs.Prelude.{IfOk, OnOk, slice_set}
use Rattle.std.proofs.lemmas.Result.{IfOk-weaker, on_ok_weaker}
use Rattle.tk_types.specs.declared.scenario.Event.TheVariants as events
use Rattle.tk_types.specs.declared.scenario.Taker.TheVariants as takers
use Rattle.tk_cache.specs.Views.{seen}
use Rattle.tk_kubelet.specs.Seat.{seat_of}
use Rattle.tk_kubelet.specs.Turn.{TurnGives}
use Rattle.tk_world.specs.Goes.{Goes}
use Rattle.tk_world.specs.Nodes.{hosts_between}
use Rattle.tk_world.specs.Stepped.{KubeletAnswers}
use Rattle.tk_world.specs.Whole.{Whole, whole_of}
use Rattle.tk_world.proofs.Inside.{node_at, stands_inside}
use Rattle.tk_world.proofs.Played.{kubelet_goes}
use Rattle.tk_world.proofs.world.World.turn_kubelet.Goals as goal

pub turn-requires-clause-met : goal.turn-requires-clause-met
turn-requires-clause-met c = ((stands_inside (whole_of c.self.inside.store c.self.inside.clock c.self.inside.controllers.items c.self.inside.nodes.items c.self.inside.scripts c.self.inside.watch) c.args.self.now c.self.view_is c.requires.world).stand c.args.i c.index_mut-node.result.now (node_at (whole_of c.self.inside.store c.self.inside.clock c.self.inside.controllers.items c.self.inside.nodes.items c.self.inside.scripts c.self.inside.watch) c.args.self.now c.self.view_is c.requires.world c.args.i c.index_mut-node.result.now c.requires.place c.index_mut-node.ensures.value)).met

pub returns-clause-ok : goal.returns-clause-ok
returns-clause-ok c =
    subst (λ (w : Whole). OnOk c.turn.result (Goes (events.Turn (takers.Kubelet c.args.i) ∷ []) w
    (whole_of c.turn.new.store c.self.inside.clock c.self.inside.controllers.items (slice_set c.self.inside.nodes.items c.args.i c.turn.new.self) c.self.inside.scripts c.self.inside.watch))) c.self.view_is
    (on_ok_weaker c.turn.result (λ plays.
    kubelet_goes c.self.inside.store c.turn.new.store c.self.inside.clock c.self.inside.controllers.items c.self.inside.nodes.items c.self.inside.scripts c.self.inside.watch (stands_inside (whole_of c.self.inside.store c.self.inside.clock c.self.inside.controllers.items c.self.inside.nodes.items c.self.inside.scripts c.self.inside.watch) c.args.self.now c.self.view_is c.requires.world) c.args.i c.index_mut-node.result.now c.turn.new.self
    (node_at (whole_of c.self.inside.store c.self.inside.clock c.self.inside.controllers.items c.self.inside.nodes.items c.self.inside.scripts c.self.inside.watch) c.args.self.now c.self.view_is c.requires.world c.args.i c.index_mut-node.result.now c.requires.place c.index_mut-node.ensures.value) plays)
    c.turn.ensures.plays)

pub returns-clause-answer : goal.returns-clause-answer
returns-clause-answer c =
    subst (λ (w : Whole). IfOk c.turn.result (KubeletAnswers c.args.i w
    (whole_of c.turn.new.store c.self.inside.clock c.self.inside.controllers.items (slice_set c.self.inside.nodes.items c.args.i c.turn.new.self) c.self.inside.scripts c.self.inside.watch))) c.self.view_is
    (IfOk-weaker c.turn.result
    (TurnGives (seat_of c.index_mut-node.result.now.kubelet (seen c.index_mut-node.result.now.cache) c.self.inside.clock) c.index_mut-node.result.now.kubelet.held c.turn.new.self.kubelet.held (hosts_between c.index_mut-node.result.now c.turn.new.self) c.self.inside.store c.turn.new.store)
    (KubeletAnswers c.args.i (whole_of c.self.inside.store c.self.inside.clock c.self.inside.controllers.items c.self.inside.nodes.items c.self.inside.scripts c.self.inside.watch) (whole_of c.turn.new.store c.self.inside.clock c.self.inside.controllers.items (slice_set c.self.inside.nodes.items c.args.i c.turn.new.self) c.self.inside.scripts c.self.inside.watch))
    (λ turn gives. record {
      node = c.index_mut-node.result.now;
      at = (node_at (whole_of c.self.inside.store c.self.inside.clock c.self.inside.controllers.items c.self.inside.nodes.items c.self.inside.scripts c.self.inside.watch) c.args.self.now c.self.view_is c.requires.world c.args.i c.index_mut-node.result.now c.requires.place c.index_mut-node.ensures.value);
      now = c.turn.new.self;
      behind = refl;
      gives = gives;
    }) c.turn.ensures.answer)
