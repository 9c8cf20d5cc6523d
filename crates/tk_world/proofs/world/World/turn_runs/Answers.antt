use Rattle.std.proofs.Common.{◌≢◌, [], ◌∷◌, ℕ, refl, subst, sym}
use Rattle.std.specs.Prelude.{IfOk, OnOk}
use Rattle.std.proofs.lemmas.Result.{on_ok_weaker}
use Rattle.tk_types.specs.declared.scenario.Event.TheVariants as events
use Rattle.tk_types.specs.declared.scenario.Taker.TheVariants as takers
use Rattle.tk_journal.specs.declared.entry.Actor.TheVariants as actors
use Rattle.tk_store.specs.declared.turn.Turn.{Turn}
use Rattle.tk_store.specs.declared.turn.Turn.TheVariants as turns
use Rattle.tk_cache.specs.Views.{Kept, seen}
use Rattle.tk_choice.specs.Took.{TookFirst}
use Rattle.tk_world.specs.Goes.{Goes}
use Rattle.tk_world.specs.Stepped.{WorkerAnswers}
use Rattle.tk_world.specs.Whole.{Whole, whole_of}
use Rattle.tk_world.proofs.Inside.{controller_at, if_both, stands_inside}
use Rattle.tk_world.proofs.Worked.{runs_worker_goes}
use Rattle.tk_world.proofs.world.World.turn_runs.Goals as goal

pub returns-clause-ok : goal.returns-clause-ok
returns-clause-ok c =
    subst (λ (w : Whole). OnOk c.with_room.result (Goes (events.Turn (takers.Runs c.args.i) ∷ []) w (whole_of c.turn.new.store c.self.inside.clock c.self.inside.controllers.items c.self.inside.nodes.items c.self.inside.scripts c.self.inside.watch))) c.self.view_is
    (on_ok_weaker c.with_room.result (λ room.
    runs_worker_goes c.self.inside.store c.turn.new.store c.self.inside.clock c.self.inside.controllers.items c.self.inside.nodes.items c.self.inside.scripts c.self.inside.watch (stands_inside (whole_of c.self.inside.store c.self.inside.clock c.self.inside.controllers.items c.self.inside.nodes.items c.self.inside.scripts c.self.inside.watch) c.args.self.now c.self.view_is c.requires.world) c.args.i c.index-cache.result.now c.in_ok-turn.field-0
    (controller_at (whole_of c.self.inside.store c.self.inside.clock c.self.inside.controllers.items c.self.inside.nodes.items c.self.inside.scripts c.self.inside.watch) c.args.self.now c.self.view_is c.requires.world c.args.i c.index-cache.result.now c.requires.place c.index-cache.ensures) room
    (subst (λ (n : ℕ). TookFirst (seen c.index-cache.result.now) (actors.Runs n) c.self.inside.clock c.self.inside.store c.in_ok-turn.field-0 c.turn.new.store) c.new-worker.ensures (subst (λ (k : Kept). TookFirst (seen k) (actors.Runs c.new-worker.result.number) c.self.inside.clock c.self.inside.store c.in_ok-turn.field-0 c.turn.new.store) c.runs.ensures c.in_ok-turn.ensures.first)))
    c.with_room.ensures.room)

pub returns-clause-answer : goal.returns-clause-answer
returns-clause-answer c =
    subst (λ (w : Whole). IfOk c.with_room.result (WorkerAnswers (actors.Runs c.args.i) c.args.i w (whole_of c.turn.new.store c.self.inside.clock c.self.inside.controllers.items c.self.inside.nodes.items c.self.inside.scripts c.self.inside.watch))) c.self.view_is
    (if_both c.with_room.result c.with_room.ensures.ok c.with_room.ensures.room (λ turn same room. record {
      cache = c.index-cache.result.now;
      at = (controller_at (whole_of c.self.inside.store c.self.inside.clock c.self.inside.controllers.items c.self.inside.nodes.items c.self.inside.scripts c.self.inside.watch) c.args.self.now c.self.view_is c.requires.world c.args.i c.index-cache.result.now c.requires.place c.index-cache.ensures);
      took = subst (λ (t : Turn). TookFirst (seen c.index-cache.result.now) (actors.Runs c.args.i) c.self.inside.clock c.self.inside.store t c.turn.new.store) (sym same) (subst (λ (n : ℕ). TookFirst (seen c.index-cache.result.now) (actors.Runs n) c.self.inside.clock c.self.inside.store c.in_ok-turn.field-0 c.turn.new.store) c.new-worker.ensures (subst (λ (k : Kept). TookFirst (seen k) (actors.Runs c.new-worker.result.number) c.self.inside.clock c.self.inside.store c.in_ok-turn.field-0 c.turn.new.store) c.runs.ensures c.in_ok-turn.ensures.first));
      room = subst (λ (t : Turn). t ≢ turns.Memory) (sym same) room;
      nodes = refl;
    }))
