use Rattle.std.proofs.Common.{subst, sym, ◌∙◌}
use Rattle.tk_journal.specs.declared.entry.Entry.{Entry}
use Rattle.tk_rounds.specs.declared.bench.Node.{Node}
use Rattle.tk_rounds.specs.Bench.{IsReadyNode, NodeFollows}
use Rattle.tk_rounds.specs.Members.{of_kubelet}
use Rattle.tk_rounds.specs.Turning.{place_of}
use Rattle.tk_rounds.proofs.NodeTurn.{node_turned}
use Rattle.tk_rounds.proofs.Standing.{turn_grows}
use Rattle.tk_threads.proofs.Noting.{adds_own, over_at, over_is}
use Rattle.tk_threads.proofs.Owners.{of_kubelet_owner}
use Rattle.tk_threads.proofs.worker.WorkerActorStore.take_turn.Goals as goal

pub turn-wrote-requires-clause-shows : goal.turn-wrote-requires-clause-shows
turn-wrote-requires-clause-shows g c = (over_is (λ history. IsReadyNode g.H.Host.told g.H.Host.killed history c.args.self.now.node) c.args.store.now.history c.requires.1).shows

pub turn-wrote-requires-clause-met : goal.turn-wrote-requires-clause-met
turn-wrote-requires-clause-met g c = (over_is (λ history. IsReadyNode g.H.Host.told g.H.Host.killed history c.args.self.now.node) c.args.store.now.history c.requires.1).met

pub returns-clause-adds : goal.returns-clause-adds
returns-clause-adds g c =
    let m = c.args.self.now.node in
    let after = c.turn-wrote.new.store in
    adds_own (of_kubelet m.kubelet.number) c.args.self.now.owner (λ (e : Entry) is. of_kubelet_owner m.kubelet.number e.actor is ∙ sym c.requires.0) c.args.store.now.history after.history
    (turn_grows (of_kubelet m.kubelet.number) c.args.self.now.given (place_of g.K.Clock.readings g.K.Clock.last m.clock m.cache c.args.store.now) (place_of g.K.Clock.readings g.K.Clock.last c.turn-wrote.new.self.clock c.turn-wrote.new.self.cache after) c.turn-wrote.ensures.turn)

pub returns-clause-follows : goal.returns-clause-follows
returns-clause-follows g c start is =
    let m = c.args.self.now.node in
    let before = c.args.store.now in
    let after = c.turn-wrote.new.store in
    let turn = c.turn-wrote.ensures in
    let shown = over_is (λ history. IsReadyNode g.H.Host.told g.H.Host.killed history m) before.history c.requires.1 in
    let ready = subst (λ (x : Node _ _ _). IsReadyNode g.H.Host.told g.H.Host.killed before.history x) is.rest shown in
    over_at (NodeFollows g.G.Gate.answers g.K.Clock.readings g.K.Clock.last g.H.Host.told g.H.Host.faults start.node c.turn-wrote.new.self) after.history
    (node_turned g.G.Gate.answers g.K.Clock.readings g.K.Clock.last g.H.Host.told g.H.Host.killed g.H.Host.faults g.H.Host.watches g.H.Host.files g.H.Host.plays
    start.node is.before m c.turn-wrote.new.self c.args.self.now.given before after c.turn-wrote.result
    (c.legal_is_planned.ensures before.history c.legal.ensures) c.legal-2.ensures (record { shows = ready.shows; met = ready.met }) turn.met
    is.rest is.gave turn.gate turn.kubelet turn.life turn.turn turn.worked turn.memory turn.rests
    (over_is (NodeFollows g.G.Gate.answers g.K.Clock.readings g.K.Clock.last g.H.Host.told g.H.Host.faults start.node is.before) before.history is.stood))
