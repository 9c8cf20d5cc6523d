use Rattle.std.proofs.Common.{All, take}
use Rattle.tk_admit.specs.Measure.{HasShortName}
use Rattle.tk_admit.proofs.measure.longest_name.Given as goal

-- the names so far have at most so many bytes
abbrev pub invariant-loop-task : goal.invariant-loop-task
invariant-loop-task l = All (HasShortName l.longest) (take l.task-index l.tasks)
