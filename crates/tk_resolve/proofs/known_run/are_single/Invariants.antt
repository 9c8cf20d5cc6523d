use Rattle.std.proofs.Common.{All, take}
use Rattle.tk_resolve.specs.Known.{IsSingle}
use Rattle.tk_resolve.proofs.known_run.are_single.Given as goal

-- no task so far has a matrix
abbrev pub invariant-loop-task : goal.invariant-loop-task
invariant-loop-task l = All IsSingle (take l.task-index l.tasks)
