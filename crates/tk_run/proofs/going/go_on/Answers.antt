use Rattle.tk_run.proofs.Onward.{goes_on}
use Rattle.tk_run.proofs.going.go_on.Goals as goal

pub returns-in_err-round-clause-goes : goal.returns-in_err-round-clause-goes
returns-in_err-round-clause-goes g c = goes_on g.G.Gate.answers g.K.Clock.readings g.K.Clock.last g.H.Host.told g.H.Host.faults c.args.bench.now c.ask.new.bench c.round.new.bench c.args.store.now.history c.ask.new.store.history c.round.new.store.history c.ask.ensures.goes c.round.ensures.goes

pub returns-in_err-round-clause-asks : goal.returns-in_err-round-clause-asks
returns-in_err-round-clause-asks g c since le was = c.round.ensures.asks since (c.ask.ensures.asks since le was)

pub returns-clause-goes : goal.returns-clause-goes
returns-clause-goes g c = goes_on g.G.Gate.answers g.K.Clock.readings g.K.Clock.last g.H.Host.told g.H.Host.faults c.args.bench.now c.ask.new.bench c.round.new.bench c.args.store.now.history c.ask.new.store.history c.round.new.store.history c.ask.ensures.goes c.round.ensures.goes

pub returns-clause-asks : goal.returns-clause-asks
returns-clause-asks g c since le was = c.round.ensures.asks since (c.ask.ensures.asks since le was)
