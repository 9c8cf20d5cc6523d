-- Behind a cancel its command runs no more.
use Rattle.std.proofs.Common.{[], refl, true}
use Rattle.tk_enter.specs.Enter.{moment}
use Rattle.tk_enter.proofs.Settled.{left_settled, miss_settled, put_settled}
use Rattle.tk_enter.proofs.entering.cancel.Goals as goal

pub returns-then-is_err-clause-settled : goal.returns-then-is_err-clause-settled
returns-then-is_err-clause-settled g c w order first going =
    let now = moment (g.H.Host.told c.args.host.now) (g.H.Host.files c.args.host.now) (g.H.Host.killed c.args.host.now) (g.H.Host.faults c.args.host.now) in
    left_settled w order c.args.entry.now first now (g.H.Host.told c.args.host.now) (g.H.Host.told c.kill.new.host) (g.H.Host.killed c.args.host.now) (g.H.Host.killed c.kill.new.host) going refl c.kill.ensures.told c.kill.ensures.killed

pub returns-in-Ok-clause-settled : goal.returns-in-Ok-clause-settled
returns-in-Ok-clause-settled g c w order first going =
    let now = moment (g.H.Host.told c.args.host.now) (g.H.Host.files c.args.host.now) (g.H.Host.killed c.args.host.now) (g.H.Host.faults c.args.host.now) in
    put_settled first.told (g.H.Host.told c.kill.new.host) (g.H.Host.told c.put.new.self) (g.H.Host.killed c.kill.new.host) (g.H.Host.killed c.put.new.self) c.as_str.result.now [] true
    (left_settled w order c.args.entry.now first now (g.H.Host.told c.args.host.now) (g.H.Host.told c.kill.new.host) (g.H.Host.killed c.args.host.now) (g.H.Host.killed c.kill.new.host) going refl c.kill.ensures.told c.kill.ensures.killed)
    c.in-Ok.ensures.told c.put.ensures.killed

pub returns-in-Err-clause-settled : goal.returns-in-Err-clause-settled
returns-in-Err-clause-settled g c w order first going =
    let now = moment (g.H.Host.told c.args.host.now) (g.H.Host.files c.args.host.now) (g.H.Host.killed c.args.host.now) (g.H.Host.faults c.args.host.now) in
    miss_settled first.told (g.H.Host.told c.kill.new.host) (g.H.Host.told c.put.new.self) (g.H.Host.killed c.kill.new.host) (g.H.Host.killed c.put.new.self) c.as_str.result.now [] c.in-Err.miss
    (left_settled w order c.args.entry.now first now (g.H.Host.told c.args.host.now) (g.H.Host.told c.kill.new.host) (g.H.Host.killed c.args.host.now) (g.H.Host.killed c.kill.new.host) going refl c.kill.ensures.told c.kill.ensures.killed)
    c.in-Err.ensures.told c.put.ensures.killed
