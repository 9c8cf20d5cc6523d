use Rattle.std.proofs.Common.{◌-◌}
use Rattle.tk_places.specs.Places.{AllBefore}
use Rattle.tk_cache.specs.Views.{seen}
use Rattle.tk_taskrec.proofs.Queued.{IsIdle}
use Rattle.tk_taskrec.proofs.choosing.first_queued.Given as goal

-- the TaskRuns before the place give rise to no act
abbrev pub invariant-loop-from : goal.invariant-loop-from
invariant-loop-from l = AllBefore (IsIdle (seen l.cache).view) (seen l.cache).view.task_runs l.from

abbrev pub decreases-loop-from : goal.decreases-loop-from
decreases-loop-from l = l.end - l.from
