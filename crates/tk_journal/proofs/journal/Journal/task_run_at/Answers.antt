use Rattle.std.proofs.Common.{◌∙◌, ap, sym, List}
use Rattle.tk_journal.specs.declared.entry.Entry.{Entry}
use Rattle.tk_journal.specs.History.{task_run_of}
use Rattle.tk_journal.proofs.Positions.{past_none, task_run_hit, task_run_miss}
use Rattle.tk_journal.proofs.journal.Journal.task_run_at.Goals as goal
use Rattle.tk_journal.proofs.journal.Journal.task_run_at.Goals.{then-writes+in_ok-task_run, else-writes}

pub loop-place-init : goal.loop-place-init
loop-place-init c = sym (ap (λ (h : List Entry). task_run_of h c.args.name.now) (past_none c.args.self.now.history))

pub loop-place-preserved : goal.loop-place-preserved
loop-place-preserved c = elim c.if-writes.branch [
  | then-writes+in_ok-task_run w ↦
      task_run_hit c.args.self.now.history c.loop-place.place c.entry-entry.result.now c.args.name.now c.entry-entry.ensures (sym c.writes.ensures ∙ w.if-writes.true) c.loop-place.task_run c.if-writes.task_run c.loop-place.invariant (w.task_run-is ∙ w.in_ok-task_run.ensures)
  | else-writes w ↦
      w.task_run-is ∙ task_run_miss c.args.self.now.history c.loop-place.place c.entry-entry.result.now c.args.name.now c.entry-entry.ensures (sym c.writes.ensures ∙ w.if-writes.false) c.loop-place.task_run c.loop-place.invariant
]
