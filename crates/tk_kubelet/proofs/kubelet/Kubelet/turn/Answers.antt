use Rattle.std.proofs.Common.{◌≡◌, ℕ, List, sym, ap, subst}
use Rattle.std.specs.Prelude.{IfOk, OnErr}
use Rattle.tk_cache.specs.Fronts.{Shows}
use Rattle.tk_cache.specs.Views.{Kept, seen}
use Rattle.tk_pod_cache.specs.Marks.{ArePodsMarked}
use Rattle.tk_kubelet.specs.Holding.{Holding, IsMet}
use Rattle.tk_kubelet.specs.Seat.{host_at, hosts_of, seat_of}
use Rattle.tk_kubelet.specs.Turn.{TurnGives, TurnMissed}
use Rattle.tk_kubelet.proofs.kubelet.Kubelet.turn.Goals as goal

pub take_turn-requires-clause-marked : goal.take_turn-requires-clause-marked
take_turn-requires-clause-marked g c =
    subst (λ (k : Kept). ArePodsMarked (seen k).view c.marks.result.now) (sym c.cache.ensures) c.marks.ensures

pub take_turn-requires-clause-shows : goal.take_turn-requires-clause-shows
take_turn-requires-clause-shows g c =
    subst (λ (k : Kept). Shows (seen k) c.args.store.now.history) (sym c.cache.ensures) c.requires.shows

pub take_turn-requires-clause-met : goal.take_turn-requires-clause-met
take_turn-requires-clause-met g c =
    subst (λ (k : Holding). IsMet k c.args.store.now.history (g.H.Host.killed c.args.host.now) (g.H.Host.told c.args.host.now)) (sym c.self.view_is) c.requires.met

pub returns-clause-same : goal.returns-clause-same
returns-clause-same g c =
    record { number = ap (λ (k : Holding). k.number) c.self.view_is; life = ap (λ (k : Holding). k.life) c.self.view_is; root = ap (λ (k : Holding). k.root) c.self.view_is }

pub returns-clause-answer : goal.returns-clause-answer
returns-clause-answer g c =
    subst (λ (s : Kept). IfOk c.take_turn.result (TurnGives (seat_of c.args.self.now (seen s) c.args.moment) c.args.self.now.held c.take_turn.new.held.items (hosts_of g.H.Host.told g.H.Host.killed g.H.Host.faults g.H.Host.watches g.H.Host.files g.H.Host.plays c.args.host.now c.take_turn.new.host) c.args.store.now c.take_turn.new.store)) c.cache.ensures
    (subst (λ (k : Holding). IfOk c.take_turn.result (TurnGives (seat_of k (seen c.cache.result.now) c.args.moment) k.held c.take_turn.new.held.items (hosts_of g.H.Host.told g.H.Host.killed g.H.Host.faults g.H.Host.watches g.H.Host.files g.H.Host.plays c.args.host.now c.take_turn.new.host) c.args.store.now c.take_turn.new.store)) c.self.view_is c.take_turn.ensures.answer)

pub returns-clause-memory : goal.returns-clause-memory
returns-clause-memory g c =
    subst (λ (s : Kept). OnErr c.take_turn.result (TurnMissed (seat_of c.args.self.now (seen s) c.args.moment) c.args.self.now.held c.take_turn.new.held.items (hosts_of g.H.Host.told g.H.Host.killed g.H.Host.faults g.H.Host.watches g.H.Host.files g.H.Host.plays c.args.host.now c.take_turn.new.host) c.args.store.now c.take_turn.new.store)) c.cache.ensures
    (subst (λ (k : Holding). OnErr c.take_turn.result (TurnMissed (seat_of k (seen c.cache.result.now) c.args.moment) k.held c.take_turn.new.held.items (hosts_of g.H.Host.told g.H.Host.killed g.H.Host.faults g.H.Host.watches g.H.Host.files g.H.Host.plays c.args.host.now c.take_turn.new.host) c.args.store.now c.take_turn.new.store)) c.self.view_is c.take_turn.ensures.memory)
