use Rattle.std.proofs.Common.{length}
use Rattle.tk_run.proofs.Members.{tried_turns}
use Rattle.tk_run.proofs.Onward.{round_goes}
use Rattle.tk_run.proofs.going.round.Goals as goal

pub returns-in_err-end-clause-goes : goal.returns-in_err-end-clause-goes
returns-in_err-end-clause-goes g c =
    round_goes g.G.Gate.answers g.K.Clock.readings g.K.Clock.last g.H.Host.told g.H.Host.faults c.args.bench.now c.some_round-end.new.bench c.args.store.now.history c.some_round-end.new.store.history c.legal.ensures
    c.some_round-end.ensures.counts c.some_round-end.ensures.grows c.some_round-end.ensures.controllers_follow c.some_round-end.ensures.nodes_follow c.some_round-end.ensures.user

pub returns-in_err-end-clause-asks : goal.returns-in_err-end-clause-asks
returns-in_err-end-clause-asks g c since was =
    tried_turns since c.args.words.now c.args.asking.now.tried.items (length c.args.bench.now.controllers.items) (length c.args.bench.now.kubelets.items) c.args.store.now.history c.some_round-end.new.store.history c.legal.ensures c.some_round-end.ensures.grows was

pub returns-clause-goes : goal.returns-clause-goes
returns-clause-goes g c =
    round_goes g.G.Gate.answers g.K.Clock.readings g.K.Clock.last g.H.Host.told g.H.Host.faults c.args.bench.now c.some_round-end.new.bench c.args.store.now.history c.some_round-end.new.store.history c.legal.ensures
    c.some_round-end.ensures.counts c.some_round-end.ensures.grows c.some_round-end.ensures.controllers_follow c.some_round-end.ensures.nodes_follow c.some_round-end.ensures.user

pub returns-clause-asks : goal.returns-clause-asks
returns-clause-asks g c since was =
    tried_turns since c.args.words.now c.args.asking.now.tried.items (length c.args.bench.now.controllers.items) (length c.args.bench.now.kubelets.items) c.args.store.now.history c.some_round-end.new.store.history c.legal.ensures c.some_round-end.ensures.grows was
