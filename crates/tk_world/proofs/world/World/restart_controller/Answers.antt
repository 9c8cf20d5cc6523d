use Rattle.std.proofs.Common.{◌≡◌, [], ◌∷◌, refl, subst}
use Rattle.std.specs.Prelude.{slice_set}
use Rattle.tk_types.specs.declared.scenario.Event.TheVariants as events
use Rattle.tk_types.specs.declared.scenario.Viewer.TheVariants as viewers
use Rattle.tk_world.specs.Goes.{Goes}
use Rattle.tk_world.specs.Whole.{Whole, whole_of}
use Rattle.tk_world.proofs.Inside.{controller_at, stands_inside}
use Rattle.tk_world.proofs.Restarted.{controller_restarts}
use Rattle.tk_world.proofs.world.World.restart_controller.Goals as goal

pub returns-clause-goes : goal.returns-clause-goes
returns-clause-goes c =
    subst (λ (w : Whole). Goes (events.Restart (viewers.Controller c.args.i) ∷ []) w
    (whole_of c.self.inside.store c.self.inside.clock (slice_set c.self.inside.controllers.items c.args.i c.empty.result) c.self.inside.nodes.items c.self.inside.scripts c.self.inside.watch)) c.self.view_is
    (controller_restarts c.self.inside.store c.self.inside.clock c.self.inside.controllers.items c.self.inside.nodes.items c.self.inside.scripts c.self.inside.watch (stands_inside (whole_of c.self.inside.store c.self.inside.clock c.self.inside.controllers.items c.self.inside.nodes.items c.self.inside.scripts c.self.inside.watch) c.args.self.now c.self.view_is c.requires.world)
    c.args.i c.index_mut-cache.result.now c.empty.result (controller_at (whole_of c.self.inside.store c.self.inside.clock c.self.inside.controllers.items c.self.inside.nodes.items c.self.inside.scripts c.self.inside.watch) c.args.self.now c.self.view_is c.requires.world c.args.i c.index_mut-cache.result.now c.requires.place c.index_mut-cache.ensures.value) c.empty.ensures)

pub returns-clause-nodes : goal.returns-clause-nodes
returns-clause-nodes c = subst (λ (w : Whole). c.self.inside.nodes.items ≡ w.nodes) c.self.view_is refl
