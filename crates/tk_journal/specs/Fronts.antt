-- Fronts within a history.
use Rattle.std.specs.Prelude.{◌≤◌, List, length}
use Rattle.tk_journal.specs.declared.entry.Fronts.{Fronts}
use Rattle.tk_journal.specs.declared.entry.Entry.{Entry}

-- no front is past the history
pub record AreWithin (fronts : Fronts) (history : List Entry) : Type 0 where
  pub runs : fronts.runs ≤ length history
  pub task_runs : fronts.task_runs ≤ length history
  pub pods : fronts.pods ≤ length history
