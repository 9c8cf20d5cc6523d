use Rattle.std.proofs.Common.{◌≡◌, ℕ, List, sym, subst}
use Rattle.tk_edge.specs.declared.event.Event.{Event}
use Rattle.tk_held.specs.Pods.{KeepsPod}
use Rattle.tk_kubelet.specs.Seat.{host_at}
use Rattle.tk_kubelet.proofs.Judged.{one_of}
use Rattle.tk_kubelet.proofs.ending.conclude.Goals as goal

pub outcome_of-requires-clause-keeps : goal.outcome_of-requires-clause-keeps
outcome_of-requires-clause-keeps g c =
    subst (λ (h : List Event). KeepsPod h c.args.pod.now) (sym c.kill-failed.ensures.told) c.requires.keeps

pub returns-clause-one : goal.returns-clause-one
returns-clause-one g c =
    one_of c.args.root.now c.args.pod.now c.outcome_of.new.pod (host_at g.H.Host.told g.H.Host.killed g.H.Host.faults g.H.Host.watches g.H.Host.files g.H.Host.plays c.args.host.now) (host_at g.H.Host.told g.H.Host.killed g.H.Host.faults g.H.Host.watches g.H.Host.files g.H.Host.plays c.kill-failed.new.host) (host_at g.H.Host.told g.H.Host.killed g.H.Host.faults g.H.Host.watches g.H.Host.files g.H.Host.plays c.outcome_of.new.host) c.kill-failed.ensures.told c.kill-failed.ensures.watches c.kill-failed.ensures.plays c.kill-failed.ensures.killed c.kill-failed.ensures.still c.kill-failed.ensures.only c.kill-failed.result c.kill-failed.ensures.count c.outcome_of.ensures.same c.outcome_of.ensures.moves c.outcome_of.ensures.stays c.outcome_of.ensures.killed c.outcome_of.ensures.watches c.outcome_of.ensures.plays c.outcome_of.ensures.count
