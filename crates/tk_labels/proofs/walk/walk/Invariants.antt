use Rattle.std.proofs.Common.{◌≡◌, length}
use Rattle.tk_types.specs.declared.run.Facts.{Facts}
use Rattle.tk_labels.specs.Kept.{of_run}
use Rattle.tk_labels.specs.Reached.{WasKept}
use Rattle.tk_labels.proofs.Walks.{Walks}
use Rattle.tk_labels.proofs.walk.walk.Given as goal

-- the labels of the tasks so far are right, and each of them without a mark shows what it showed
pub record Kept (l : goal.Live-loop-next) : Type 0 where
  pub count : length l.labels.items ≡ length l.run.spec.tasks
  pub marks : length l.moved.items ≡ length l.run.spec.tasks
  pub walks : (old : Facts) → WasKept old (of_run l.run l.kids) l.task l.was → Walks old (of_run l.run l.kids) l.sequence l.was l.labels.items l.moved.items l.next-index

abbrev pub invariant-loop-next : goal.invariant-loop-next
invariant-loop-next l = Kept l
