use Rattle.tk_enter.specs.Enter.{moment}
use Rattle.tk_enter.proofs.entering.turns.Goals as goal

pub returns-in-Some-one_turn-clause-finishes : goal.returns-in-Some-one_turn-clause-finishes
returns-in-Some-one_turn-clause-finishes g c =
    c.in-Some-one_turn.ensures.gives c.args.entry.now.armed.order (moment (g.H.Host.told c.args.host.now) (g.H.Host.files c.args.host.now) (g.H.Host.killed c.args.host.now) (g.H.Host.faults c.args.host.now)) c.loop.invariant

pub returns-in-Some-one_turn-clause-settled : goal.returns-in-Some-one_turn-clause-settled
returns-in-Some-one_turn-clause-settled g c =
    c.in-Some-one_turn.ensures.settled c.args.entry.now.armed.order (moment (g.H.Host.told c.args.host.now) (g.H.Host.files c.args.host.now) (g.H.Host.killed c.args.host.now) (g.H.Host.faults c.args.host.now)) c.loop.invariant

pub loop-preserved : goal.loop-preserved
loop-preserved g c =
    c.in_default.ensures.gives c.args.entry.now.armed.order (moment (g.H.Host.told c.args.host.now) (g.H.Host.files c.args.host.now) (g.H.Host.killed c.args.host.now) (g.H.Host.faults c.args.host.now)) c.loop.invariant
