use Rattle.tk_run.proofs.Members.{asked_goes, asked_ready}
use Rattle.tk_run.proofs.going.ask.Goals as goal

pub returns-clause-ready : goal.returns-clause-ready
returns-clause-ready g c =
    asked_ready g.G.Gate.answers g.K.Clock.readings g.K.Clock.last g.H.Host.told g.H.Host.killed g.H.Host.faults c.laws.ensures.keep c.laws.ensures.follow c.laws-2.ensures.keep c.laws-2.ensures.follow
    c.args.bench.now c.ask_due.new.user c.args.store.now.history c.ask_due.new.store.history c.ask_due.ensures.legal c.ask_due.ensures.grows c.requires.ready

pub returns-clause-goes : goal.returns-clause-goes
returns-clause-goes g c =
    asked_goes g.G.Gate.answers g.K.Clock.readings g.K.Clock.last g.H.Host.told g.H.Host.killed g.H.Host.faults c.laws.ensures.keep c.laws.ensures.follow c.laws-2.ensures.keep c.laws-2.ensures.follow
    c.args.bench.now c.ask_due.new.user c.args.store.now.history c.ask_due.new.store.history c.ask_due.ensures.legal c.ask_due.ensures.grows c.requires.ready c.ask_due.ensures.user
