use Rattle.tk_cache.specs.Views.{seen}
use Rattle.tk_task_cache.proofs.Queue.{AreQueuedTo}
use Rattle.tk_task_cache.proofs.advance.judge_all.Given as goal

-- the TaskRuns so far are judged
abbrev pub invariant-loop-place : goal.invariant-loop-place
invariant-loop-place l = AreQueuedTo (seen l.cache).view l.place l.queue
