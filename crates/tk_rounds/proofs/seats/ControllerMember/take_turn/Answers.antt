use Rattle.std.proofs.Common.{subst}
use Rattle.tk_rounds.specs.Growth.{GrowsBy, IsOwn}
use Rattle.tk_rounds.specs.Members.{of_controller}
use Rattle.tk_rounds.specs.Turning.{place_of}
use Rattle.tk_rounds.specs.declared.bench.Controller.{Controller}
use Rattle.tk_rounds.proofs.Standing.{controller_follows, turn_grows}
use Rattle.tk_rounds.proofs.seats.ControllerMember.take_turn.Goals as goal

pub returns-in_err-wrote-clause-follows : goal.returns-in_err-wrote-clause-follows
returns-in_err-wrote-clause-follows g c start is =
    controller_follows g.G.Gate.answers g.K.Clock.readings g.K.Clock.last start (record c.args.self.now { lag = c.lag_of-self.result }) c.next-given.new.self c.turn-wrote.new.self c.next-given.result c.args.store.now c.turn-wrote.new.store
    c.next-given.ensures.same c.next-given.ensures.gave c.turn-wrote.ensures.gate c.turn-wrote.ensures.number c.requires.ready c.turn-wrote.ensures.turn c.turn-wrote.ensures.chosen (record { since = is.since; chosen = is.chosen })

pub returns-clause-grows : goal.returns-clause-grows
returns-clause-grows g c =
    subst (λ (n : Controller _ _). GrowsBy (IsOwn (of_controller n.number)) c.args.store.now.history c.turn-wrote.new.store.history) c.next-given.ensures.same
    (turn_grows (of_controller c.next-given.new.self.number) c.next-given.result (place_of g.K.Clock.readings g.K.Clock.last c.next-given.new.self.clock c.next-given.new.self.cache c.args.store.now)
    (place_of g.K.Clock.readings g.K.Clock.last c.turn-wrote.new.self.clock c.turn-wrote.new.self.cache c.turn-wrote.new.store) c.turn-wrote.ensures.turn)

pub returns-clause-follows : goal.returns-clause-follows
returns-clause-follows g c start is =
    controller_follows g.G.Gate.answers g.K.Clock.readings g.K.Clock.last start (record c.args.self.now { lag = c.lag_of-self.result }) c.next-given.new.self c.turn-wrote.new.self c.next-given.result c.args.store.now c.turn-wrote.new.store
    c.next-given.ensures.same c.next-given.ensures.gave c.turn-wrote.ensures.gate c.turn-wrote.ensures.number c.requires.ready c.turn-wrote.ensures.turn c.turn-wrote.ensures.chosen (record { since = is.since; chosen = is.chosen })
