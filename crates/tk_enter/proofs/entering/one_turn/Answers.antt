use Rattle.std.proofs.Common.{inl, inr, sym, ◌∙◌}
use Rattle.tk_enter.specs.Enter.{moment}
use Rattle.tk_enter.proofs.Going.{found, looked}
use Rattle.tk_enter.proofs.Settled.{left_settled}
use Rattle.tk_enter.proofs.entering.one_turn.Goals as goal

pub returns-then-is_gone-clause-gives : goal.returns-then-is_gone-clause-gives
returns-then-is_gone-clause-gives g c order first going =
    c.cancel.ensures.finishes c.args.words.now order (g.P.Parent.gone c.is_gone.new.self) first c.requires going (inr (sym c.is_gone.ensures ∙ c.if-is_gone.true))

pub returns-in-Ok-true-clause-gives : goal.returns-in-Ok-true-clause-gives
returns-in-Ok-true-clause-gives g c order first going =
    c.cancel-in-Ok-true.ensures.finishes c.args.words.now order (g.P.Parent.gone c.is_gone.new.self) first c.requires
    (looked c.args.words.now order c.args.entry.now first (g.H.Host.told c.args.host.now) (g.H.Host.told c.look.new.self) (g.H.Host.files c.args.host.now) (g.H.Host.files c.look.new.self) (g.H.Host.killed c.args.host.now) (g.H.Host.killed c.look.new.self) (g.H.Host.faults c.args.host.now) (g.H.Host.faults c.look.new.self) c.look.ensures.told c.look.ensures.files c.look.ensures.killed c.in-Ok-true.ensures.count going)
    (inl (found (g.H.Host.files c.args.host.now) (g.H.Host.files c.look.new.self) c.as_str.result.now c.args.words.now.cancel c.in-Ok-true.field-0 c.look.ensures.files c.as_str.ensures c.in-Ok-true.field-0-test c.in-Ok-true.ensures.stands))

pub returns-in-Ok-false-clause-gives : goal.returns-in-Ok-false-clause-gives
returns-in-Ok-false-clause-gives g c order first going =
    c.turn.ensures.gives order (g.P.Parent.gone c.is_gone.new.self) first
    (looked c.args.words.now order c.args.entry.now first (g.H.Host.told c.args.host.now) (g.H.Host.told c.look.new.self) (g.H.Host.files c.args.host.now) (g.H.Host.files c.look.new.self) (g.H.Host.killed c.args.host.now) (g.H.Host.killed c.look.new.self) (g.H.Host.faults c.args.host.now) (g.H.Host.faults c.look.new.self) c.look.ensures.told c.look.ensures.files c.look.ensures.killed c.in-Ok-false.ensures.count going)

pub returns-in-Err-clause-settled : goal.returns-in-Err-clause-settled
returns-in-Err-clause-settled g c order first going =
    left_settled c.args.words.now order c.args.entry.now first (moment (g.H.Host.told c.args.host.now) (g.H.Host.files c.args.host.now) (g.H.Host.killed c.args.host.now) (g.H.Host.faults c.args.host.now))
    (g.H.Host.told c.look.new.self) (g.H.Host.told c.leave.new.host) (g.H.Host.killed c.look.new.self) (g.H.Host.killed c.leave.new.host)
    going c.look.ensures.told c.leave.ensures.told c.leave.ensures.killed
