use Rattle.std.proofs.Common.{subst, sym, ◌∙◌}
use Rattle.tk_journal.specs.declared.entry.Entry.{Entry}
use Rattle.tk_rounds.specs.declared.bench.Controller.{Controller}
use Rattle.tk_rounds.specs.Bench.{ControllerFollows, IsReadyController}
use Rattle.tk_rounds.specs.Members.{of_controller}
use Rattle.tk_rounds.specs.Turning.{place_of}
use Rattle.tk_rounds.proofs.Standing.{controller_follows, turn_grows}
use Rattle.tk_threads.proofs.Noting.{adds_own, over_at, over_is}
use Rattle.tk_threads.proofs.Owners.{of_controller_owner}
use Rattle.tk_threads.proofs.leader.LeaderActorStore.take_turn.Goals as goal

pub turn-wrote-requires : goal.turn-wrote-requires
turn-wrote-requires g c = record { shows = over_is (λ history. IsReadyController history c.args.self.now.controller) c.args.store.now.history c.requires.1 }

pub returns-clause-adds : goal.returns-clause-adds
returns-clause-adds g c =
    let m = c.args.self.now.controller in
    let after = c.turn-wrote.new.store in
    adds_own (of_controller m.number) c.args.self.now.owner (λ (e : Entry) is. of_controller_owner m.number e.actor is ∙ sym c.requires.0) c.args.store.now.history after.history
    (turn_grows (of_controller m.number) c.args.self.now.given (place_of g.K.Clock.readings g.K.Clock.last m.clock m.cache c.args.store.now) (place_of g.K.Clock.readings g.K.Clock.last c.turn-wrote.new.self.clock c.turn-wrote.new.self.cache after) c.turn-wrote.ensures.turn)

pub returns-clause-follows : goal.returns-clause-follows
returns-clause-follows g c start is =
    let m = c.args.self.now.controller in
    let before = c.args.store.now in
    let after = c.turn-wrote.new.store in
    let turn = c.turn-wrote.ensures in
    let shown = over_is (λ history. IsReadyController history m) before.history c.requires.1 in
    over_at (ControllerFollows g.G.Gate.answers g.K.Clock.readings g.K.Clock.last start.controller c.turn-wrote.new.self) after.history
    (controller_follows g.G.Gate.answers g.K.Clock.readings g.K.Clock.last start.controller is.before m c.turn-wrote.new.self c.args.self.now.given before after is.rest is.gave turn.gate turn.number
    (subst (λ (x : Controller _ _). IsReadyController before.history x) is.rest shown) turn.turn turn.chosen
    (over_is (ControllerFollows g.G.Gate.answers g.K.Clock.readings g.K.Clock.last start.controller is.before) before.history is.stood))
