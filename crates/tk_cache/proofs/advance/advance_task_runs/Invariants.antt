use Rattle.tk_journal.specs.History.{past, run_of}
use Rattle.tk_cache.specs.Children.{AreOwned}
use Rattle.tk_cache.specs.Shown.{AreTaskRuns, Stand}
use Rattle.tk_cache.proofs.advance.advance_task_runs.Given as goal

-- the TaskRuns and the runs beside them are those of the position that is reached
abbrev pub invariant-loop-place : goal.invariant-loop-place
invariant-loop-place l = AreTaskRuns (past l.place l.journal.history) l.task_runs × Stand (run_of (past l.place l.journal.history)) l.runs × AreOwned l.task_runs l.owned
