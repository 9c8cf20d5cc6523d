use Rattle.std.proofs.Common.{◌≡◌, ◌∙◌, Bool, List, true, ap, refl, subst, sym}
use Rattle.std.specs.Prelude.{◌↔◌}
use Rattle.tk_journal.specs.declared.entry.Entry.{Entry}
use Rattle.tk_journal.specs.Progress.{IsOpen}
use Rattle.tk_cache.specs.Fronts.{Shows}
use Rattle.tk_cache.specs.Views.{seen}
use Rattle.tk_world.specs.Goes.{IsSame, Stays}
use Rattle.tk_world.specs.Looking.{is_open_in}
use Rattle.tk_world.specs.Whole.{Whole, whole_of}
use Rattle.tk_world.proofs.Inside.{stands_inside}
use Rattle.tk_world.proofs.Moved.{watch_set}
use Rattle.tk_world.proofs.Opens.{opens}
use Rattle.tk_world.proofs.world.World.is_open.Goals as goal

pub returns-clause-open : goal.returns-clause-open
returns-clause-open c =
    let same = c.journal.ensures ∙ ap (λ (w : Whole). w.store.history) c.self.view_is in
    subst (λ (b : Bool). (b ≡ true) ↔ IsOpen c.args.self.now.store.history) (sym c.is_open.ensures)
    (subst (λ (h : List Entry). (is_open_in (seen c.deliver_all.new.cache).view ≡ true) ↔ IsOpen h) same
    (opens c.deliver_all.new.cache c.journal.result.now.history c.in_ok-deliver_all.ensures.shows c.in_ok-deliver_all.ensures.fronts))

pub returns-clause-stays : goal.returns-clause-stays
returns-clause-stays c =
    subst (λ (w : Whole). Stays w (whole_of c.self.inside.store c.self.inside.clock c.self.inside.controllers.items c.self.inside.nodes.items c.self.inside.scripts c.deliver_all.new.cache)) c.self.view_is
    (watch_set c.self.inside.store c.self.inside.clock c.self.inside.controllers.items c.self.inside.nodes.items c.self.inside.scripts c.self.inside.watch (stands_inside (whole_of c.self.inside.store c.self.inside.clock c.self.inside.controllers.items c.self.inside.nodes.items c.self.inside.scripts c.self.inside.watch) c.args.self.now c.self.view_is c.requires.world)
    c.deliver_all.new.cache (subst (Shows (seen c.deliver_all.new.cache)) c.journal.ensures c.in_ok-deliver_all.ensures.shows))

pub returns-clause-same : goal.returns-clause-same
returns-clause-same c =
    subst (λ (w : Whole). IsSame w (whole_of c.self.inside.store c.self.inside.clock c.self.inside.controllers.items c.self.inside.nodes.items c.self.inside.scripts c.deliver_all.new.cache)) c.self.view_is
    (record { store = refl; clock = refl; controllers = refl; nodes = refl; pods = refl })
