use Rattle.tk_enter.proofs.Settled.{nothing_settled}
use Rattle.tk_enter.proofs.entering.run.Goals as goal

pub returns-in_err-entry-clause-settled : goal.returns-in_err-entry-clause-settled
returns-in_err-entry-clause-settled g c = nothing_settled (g.H.Host.told c.args.host.now) (g.H.Host.killed c.args.host.now)

pub returns-in_err-failed-clause-settled : goal.returns-in_err-failed-clause-settled
returns-in_err-failed-clause-settled g c = nothing_settled (g.H.Host.told c.args.host.now) (g.H.Host.killed c.args.host.now)
