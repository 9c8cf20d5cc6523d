use Rattle.std.proofs.Common.{◌∙◌, ap, sym, List}
use Rattle.tk_journal.specs.declared.entry.Entry.{Entry}
use Rattle.tk_journal.specs.History.{run_of}
use Rattle.tk_journal.proofs.Positions.{past_none, run_hit, run_miss}
use Rattle.tk_journal.proofs.journal.Journal.run_at.Goals as goal
use Rattle.tk_journal.proofs.journal.Journal.run_at.Goals.{then-writes+in_ok-run, else-writes}

pub loop-place-init : goal.loop-place-init
loop-place-init c = sym (ap (λ (h : List Entry). run_of h c.args.name.now) (past_none c.args.self.now.history))

pub loop-place-preserved : goal.loop-place-preserved
loop-place-preserved c = elim c.if-writes.branch [
  | then-writes+in_ok-run w ↦
      run_hit c.args.self.now.history c.loop-place.place c.entry-entry.result.now c.args.name.now c.entry-entry.ensures (sym c.writes.ensures ∙ w.if-writes.true) c.loop-place.run c.if-writes.run c.loop-place.invariant (w.run-is ∙ w.in_ok-run.ensures)
  | else-writes w ↦
      w.run-is ∙ run_miss c.args.self.now.history c.loop-place.place c.entry-entry.result.now c.args.name.now c.entry-entry.ensures (sym c.writes.ensures ∙ w.if-writes.false) c.loop-place.run c.loop-place.invariant
]
