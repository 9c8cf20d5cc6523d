use Rattle.std.proofs.Common.{arith}
use Rattle.tk_edge.proofs.Remembers.{unnamed_new}
use Rattle.tk_edge.proofs.host_log.HostLog.count.Goals as goal

pub returns-clause-fresh : goal.returns-clause-fresh
returns-clause-fresh c = unnamed_new c.len.result c.args.self.now.told (rw (← c.self.view_is) (c.self.invariant.index.names c.len.result (omega arith)))
