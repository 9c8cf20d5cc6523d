use Rattle.std.proofs.Common.{inr, subst}
use Rattle.tk_enter.specs.declared.words.EntryWords.{EntryWords as Words}
use Rattle.tk_enter.specs.Enter.{Finishes, moment, order_in}
use Rattle.tk_enter.specs.Words.{ReadsAs}
use Rattle.tk_enter.proofs.Settled.{nothing_settled}
use Rattle.tk_enter.proofs.Spelled.{one_reading}
use Rattle.tk_enter.proofs.entering.enter.Goals as goal

pub returns-in-Ok-clause-table : goal.returns-in-Ok-clause-table
returns-in-Ok-clause-table g c w spells =
    inr (c.in-Ok.ended, c.status.ensures, subst (λ (v : Words). Finishes v (order_in v c.args.env.now) (g.P.Parent.gone c.run.new.parent) (moment (g.H.Host.told c.args.host.now) (g.H.Host.files c.args.host.now) (g.H.Host.killed c.args.host.now) (g.H.Host.faults c.args.host.now)) (moment (g.H.Host.told c.run.new.host) (g.H.Host.files c.run.new.host) (g.H.Host.killed c.run.new.host) (g.H.Host.faults c.run.new.host)) c.in-Ok.ended) (one_reading c.args.words.now c.in-Ok-Some.words w (subst (ReadsAs c.args.words.now) c.in-Ok-Some.field-0-is c.in-Ok-Some.ensures.read) spells) c.in-Ok.ensures.finishes)

pub returns-in-Ok-None-clause-settled : goal.returns-in-Ok-None-clause-settled
returns-in-Ok-None-clause-settled g c = nothing_settled (g.H.Host.told c.args.host.now) (g.H.Host.killed c.args.host.now)

pub returns-clause-settled : goal.returns-clause-settled
returns-clause-settled g c = nothing_settled (g.H.Host.told c.args.host.now) (g.H.Host.killed c.args.host.now)
