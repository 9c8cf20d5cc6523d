use Rattle.std.proofs.Common.{[], ◌∷◌, refl}
use Rattle.tk_types.specs.declared.scenario.Event.TheVariants as events
use Rattle.tk_types.specs.declared.scenario.Taker.TheVariants as takers
use Rattle.tk_types.specs.declared.scenario.Viewer.TheVariants as viewers
use Rattle.tk_world.specs.declared.stepped.Stepped.TheVariants as stepped
use Rattle.tk_world.proofs.Steps.{took_on, took_one}
use Rattle.tk_world.proofs.world.World.kubelet_turns.Goals as goal

pub returns : goal.returns
returns c =
    let first = c.args.self.now in
    let shown = c.move_kubelet.new.self in
    let last = c.turn_kubelet.new.self in
    let sees = events.DeliverAll (viewers.Kubelet c.args.i) in
    let turn = events.Turn (takers.Kubelet c.args.i) in
    took_on (sees ∷ []) (turn ∷ []) first shown last
    (took_one sees first shown stepped.Moved c.in_ok-move_kubelet.ensures.ok (refl, c.in_ok-move_kubelet.ensures.nodes))
    (took_one turn shown last (stepped.Kubelet c.in_ok-turn_kubelet.field-0) c.in_ok-turn_kubelet.ensures.ok c.in_ok-turn_kubelet.ensures.answer)
