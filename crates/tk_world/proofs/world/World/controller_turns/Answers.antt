use Rattle.std.proofs.Common.{[], ◌∷◌, refl}
use Rattle.tk_types.specs.declared.scenario.Event.TheVariants as events
use Rattle.tk_types.specs.declared.scenario.Taker.TheVariants as takers
use Rattle.tk_types.specs.declared.scenario.Viewer.TheVariants as viewers
use Rattle.tk_world.specs.declared.stepped.Stepped.TheVariants as stepped
use Rattle.tk_world.proofs.Steps.{took_on, took_one}
use Rattle.tk_world.proofs.world.World.controller_turns.Goals as goal

pub returns : goal.returns
returns c =
    let first = c.args.self.now in
    let shown = c.move_controller.new.self in
    let ran = c.turn_runs.new.self in
    let again = c.move_controller-2.new.self in
    let last = c.turn_tasks.new.self in
    let sees = events.DeliverAll (viewers.Controller c.args.i) in
    let runs = events.Turn (takers.Runs c.args.i) in
    let tasks = events.Turn (takers.Tasks c.args.i) in
    took_on (sees ∷ []) (runs ∷ sees ∷ tasks ∷ []) first shown last
    (took_one sees first shown stepped.Moved c.in_ok-move_controller.ensures.ok (refl, c.in_ok-move_controller.ensures.nodes))
    (took_on (runs ∷ []) (sees ∷ tasks ∷ []) shown ran last
    (took_one runs shown ran (stepped.Worker c.in_ok-turn_runs.field-0) c.in_ok-turn_runs.ensures.ok c.in_ok-turn_runs.ensures.answer)
    (took_on (sees ∷ []) (tasks ∷ []) ran again last
    (took_one sees ran again stepped.Moved c.in_ok-move_controller-2.ensures.ok (refl, c.in_ok-move_controller-2.ensures.nodes))
    (took_one tasks again last (stepped.Worker c.in_ok-turn_tasks.field-0) c.in_ok-turn_tasks.ensures.ok c.in_ok-turn_tasks.ensures.answer)))
