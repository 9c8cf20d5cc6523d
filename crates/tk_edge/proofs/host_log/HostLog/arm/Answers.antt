use Rattle.std.proofs.Common.{sym, ap, ◌∙◌}
use Rattle.tk_edge.specs.Files.{broken}
use Rattle.tk_edge.specs.HostLog.{Logged, counts, flags}
use Rattle.tk_edge.proofs.Logs.{armed_index, counts_push, flags_push}
use Rattle.tk_edge.proofs.host_log.HostLog.arm.Goals as goal

pub invariant_of-self : goal.invariant_of-self
invariant_of-self c = armed_index _ _ _ _ _ _ _ _ _ _ _ _ c.self.invariant c.push_within.ensures (c.count-child.ensures.count ∙ sym (ap (λ (l : Logged). l.count) c.self.view_is)) c.in_ok-kept.ensures (c.in_ok-failed.ensures ∙ ap broken c.as_str.ensures) c.push_within-2.ensures c.push_within-3.ensures c.push_within-4.ensures

pub returns-clause-watches : goal.returns-clause-watches
returns-clause-watches c = ap counts c.push_within-4.ensures ∙ counts_push _ ∙ ap (λ (l : Logged). counts l.watches) c.self.view_is ∙ ap counts c.in_ok-make_room.ensures.watches

pub returns-clause-killed : goal.returns-clause-killed
returns-clause-killed c = ap flags c.push_within-3.ensures ∙ flags_push _ ∙ ap (λ (l : Logged). flags l.killed) c.self.view_is ∙ ap flags c.in_ok-make_room.ensures.killed
