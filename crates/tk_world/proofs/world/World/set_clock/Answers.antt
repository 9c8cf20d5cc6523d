use Rattle.std.proofs.Common.{◌≡◌, ◌≤◌, [], ◌∷◌, refl, subst, sym}
use Rattle.tk_types.specs.declared.scenario.Event.TheVariants as events
use Rattle.tk_world.specs.Goes.{Goes}
use Rattle.tk_world.specs.Whole.{Whole, whole_of}
use Rattle.tk_world.proofs.Inside.{stands_inside}
use Rattle.tk_world.proofs.Worked.{clock_goes}
use Rattle.tk_world.proofs.world.World.set_clock.Goals as goal

pub returns-clause-goes : goal.returns-clause-goes
returns-clause-goes c =
    subst (λ (w : Whole). Goes (events.Clock c.args.reading ∷ []) w
    (whole_of c.self.inside.store c.args.reading c.self.inside.controllers.items c.self.inside.nodes.items c.self.inside.scripts c.self.inside.watch)) c.self.view_is
    (clock_goes c.self.inside.store c.self.inside.store c.self.inside.clock c.self.inside.controllers.items c.self.inside.nodes.items c.self.inside.scripts c.self.inside.watch (stands_inside (whole_of c.self.inside.store c.self.inside.clock c.self.inside.controllers.items c.self.inside.nodes.items c.self.inside.scripts c.self.inside.watch) c.args.self.now c.self.view_is c.requires.world)
    c.args.reading (subst (λ (w : Whole). w.clock ≤ c.args.reading) (sym c.self.view_is) c.requires.later))

pub returns-clause-nodes : goal.returns-clause-nodes
returns-clause-nodes c = subst (λ (w : Whole). c.self.inside.nodes.items ≡ w.nodes) c.self.view_is refl
