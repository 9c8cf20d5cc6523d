use Rattle.std.proofs.Common.{◌≡◌, [], ◌∷◌, List, refl, subst}
use Rattle.std.proofs.lemmas.Result.{on_ok_weaker}
use Rattle.std.specs.Prelude.{OnOk, slice_set}
use Rattle.tk_types.specs.declared.scenario.Viewer.TheVariants as viewers
use Rattle.tk_journal.specs.declared.entry.Entry.{Entry}
use Rattle.tk_cache.specs.Fronts.{Shows}
use Rattle.tk_cache.specs.Views.{seen}
use Rattle.tk_world.specs.Goes.{Goes}
use Rattle.tk_world.specs.Moves.{moved, moves_by}
use Rattle.tk_world.specs.Whole.{Whole, whole_of}
use Rattle.tk_world.proofs.Inside.{controller_at, ok_both, stands_inside}
use Rattle.tk_world.proofs.Moved.{controller_moves}
use Rattle.tk_world.proofs.world.World.move_controller.Goals as goal

pub returns-clause-ok : goal.returns-clause-ok
returns-clause-ok c =
    subst (λ (w : Whole). OnOk c.move_run_cache.result (Goes (moves_by (viewers.Controller c.args.i) c.args.how ∷ []) w
    (whole_of c.self.inside.store c.self.inside.clock (slice_set c.self.inside.controllers.items c.args.i c.move_run_cache.new.cache) c.self.inside.nodes.items c.self.inside.scripts c.self.inside.watch))) c.self.view_is
    (ok_both c.move_run_cache.result c.move_run_cache.ensures.fronts c.move_run_cache.ensures.shows (λ fronts shows.
    controller_moves c.self.inside.store c.self.inside.clock c.self.inside.controllers.items c.self.inside.nodes.items c.self.inside.scripts c.self.inside.watch (stands_inside (whole_of c.self.inside.store c.self.inside.clock c.self.inside.controllers.items c.self.inside.nodes.items c.self.inside.scripts c.self.inside.watch) c.args.self.now c.self.view_is c.requires.world)
    c.args.how c.args.i c.index_mut-cache.result.now c.move_run_cache.new.cache (controller_at (whole_of c.self.inside.store c.self.inside.clock c.self.inside.controllers.items c.self.inside.nodes.items c.self.inside.scripts c.self.inside.watch) c.args.self.now c.self.view_is c.requires.world c.args.i c.index_mut-cache.result.now c.requires.place c.index_mut-cache.ensures.value)
    (subst (λ (h : List Entry). c.move_run_cache.new.cache.fronts ≡ moved c.args.how h c.index_mut-cache.result.now.fronts) c.journal.ensures fronts)
    (subst (Shows (seen c.move_run_cache.new.cache)) c.journal.ensures shows)))

pub returns-clause-nodes : goal.returns-clause-nodes
returns-clause-nodes c =
    subst (λ (w : Whole). OnOk c.move_run_cache.result (c.self.inside.nodes.items ≡ w.nodes)) c.self.view_is
    (on_ok_weaker c.move_run_cache.result (λ fronts. refl) c.move_run_cache.ensures.fronts)
