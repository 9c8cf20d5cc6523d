use Rattle.std.proofs.Common.{subst}
use Rattle.tk_rounds.specs.Growth.{GrowsBy, IsOwn}
use Rattle.tk_rounds.specs.Members.{of_kubelet}
use Rattle.tk_rounds.specs.Turning.{place_of}
use Rattle.tk_rounds.specs.declared.bench.Node.{Node}
use Rattle.tk_rounds.proofs.NodeTurn.{node_turned}
use Rattle.tk_rounds.proofs.Standing.{turn_grows}
use Rattle.tk_rounds.proofs.seats.NodeMember.take_turn.Goals as goal

pub returns-in_err-wrote-clause-follows : goal.returns-in_err-wrote-clause-follows
returns-in_err-wrote-clause-follows g c start is =
    let old : Node _ _ _ = record c.args.self.now { lag = c.lag_of-self.result } in
    node_turned g.G.Gate.answers g.K.Clock.readings g.K.Clock.last g.H.Host.told g.H.Host.killed g.H.Host.faults g.H.Host.watches g.H.Host.files g.H.Host.plays
    start old c.next-given.new.self c.turn-wrote.new.self c.next-given.result c.args.store.now c.turn-wrote.new.store c.turn-wrote.result
    (c.legal_is_planned.ensures c.args.store.now.history c.legal.ensures) c.legal-2.ensures (record { shows = c.requires.ready.shows; met = c.requires.ready.met }) c.turn-wrote.ensures.met
    c.next-given.ensures.same c.next-given.ensures.gave c.turn-wrote.ensures.gate
    c.turn-wrote.ensures.kubelet c.turn-wrote.ensures.life c.turn-wrote.ensures.turn c.turn-wrote.ensures.worked c.turn-wrote.ensures.memory c.turn-wrote.ensures.rests (record { since = is.since; same = is.same; life = is.life; outcomes = is.outcomes; deeds = is.deeds })

pub returns-clause-grows : goal.returns-clause-grows
returns-clause-grows g c =
    subst (λ (n : Node _ _ _). GrowsBy (IsOwn (of_kubelet n.kubelet.number)) c.args.store.now.history c.turn-wrote.new.store.history) c.next-given.ensures.same
    (turn_grows (of_kubelet c.next-given.new.self.kubelet.number) c.next-given.result (place_of g.K.Clock.readings g.K.Clock.last c.next-given.new.self.clock c.next-given.new.self.cache c.args.store.now)
    (place_of g.K.Clock.readings g.K.Clock.last c.turn-wrote.new.self.clock c.turn-wrote.new.self.cache c.turn-wrote.new.store) c.turn-wrote.ensures.turn)

pub returns-clause-follows : goal.returns-clause-follows
returns-clause-follows g c start is =
    let old : Node _ _ _ = record c.args.self.now { lag = c.lag_of-self.result } in
    node_turned g.G.Gate.answers g.K.Clock.readings g.K.Clock.last g.H.Host.told g.H.Host.killed g.H.Host.faults g.H.Host.watches g.H.Host.files g.H.Host.plays
    start old c.next-given.new.self c.turn-wrote.new.self c.next-given.result c.args.store.now c.turn-wrote.new.store c.turn-wrote.result
    (c.legal_is_planned.ensures c.args.store.now.history c.legal.ensures) c.legal-2.ensures (record { shows = c.requires.ready.shows; met = c.requires.ready.met }) c.turn-wrote.ensures.met
    c.next-given.ensures.same c.next-given.ensures.gave c.turn-wrote.ensures.gate
    c.turn-wrote.ensures.kubelet c.turn-wrote.ensures.life c.turn-wrote.ensures.turn c.turn-wrote.ensures.worked c.turn-wrote.ensures.memory c.turn-wrote.ensures.rests (record { since = is.since; same = is.same; life = is.life; outcomes = is.outcomes; deeds = is.deeds })
