use Rattle.std.proofs.Common.{[]}
use Rattle.tk_enter.specs.Enter.{moment}
use Rattle.tk_enter.proofs.Settled.{start_missed}
use Rattle.tk_enter.proofs.entering.put_began.Goals as goal

pub returns-in-Err-clause-settled : goal.returns-in-Err-clause-settled
returns-in-Err-clause-settled g c order first begins =
    start_missed c.args.words.now order c.args.entry.now first (moment (g.H.Host.told c.args.host.now) (g.H.Host.files c.args.host.now) (g.H.Host.killed c.args.host.now) (g.H.Host.faults c.args.host.now))
    (g.H.Host.told c.put.new.self) (g.H.Host.told c.leave.new.host) c.as_str.result.now [] c.in-Err.miss (g.H.Host.killed c.put.new.self) (g.H.Host.killed c.leave.new.host)
    begins c.in-Err.ensures.told c.leave.ensures.told c.leave.ensures.killed
