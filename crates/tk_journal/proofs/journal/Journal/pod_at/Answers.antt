use Rattle.std.proofs.Common.{◌∙◌, ap, sym, List}
use Rattle.tk_journal.specs.declared.entry.Entry.{Entry}
use Rattle.tk_journal.specs.History.{pod_of}
use Rattle.tk_journal.proofs.Positions.{past_none, pod_hit, pod_miss}
use Rattle.tk_journal.proofs.journal.Journal.pod_at.Goals as goal
use Rattle.tk_journal.proofs.journal.Journal.pod_at.Goals.{then-writes+in_ok-pod, else-writes}

pub loop-place-init : goal.loop-place-init
loop-place-init c = sym (ap (λ (h : List Entry). pod_of h c.args.name.now) (past_none c.args.self.now.history))

pub loop-place-preserved : goal.loop-place-preserved
loop-place-preserved c = elim c.if-writes.branch [
  | then-writes+in_ok-pod w ↦
      pod_hit c.args.self.now.history c.loop-place.place c.entry-entry.result.now c.args.name.now c.entry-entry.ensures (sym c.writes.ensures ∙ w.if-writes.true) c.loop-place.pod c.if-writes.pod c.loop-place.invariant (w.pod-is ∙ w.in_ok-pod.ensures)
  | else-writes w ↦
      w.pod-is ∙ pod_miss c.args.self.now.history c.loop-place.place c.entry-entry.result.now c.args.name.now c.entry-entry.ensures (sym c.writes.ensures ∙ w.if-writes.false) c.loop-place.pod c.loop-place.invariant
]
