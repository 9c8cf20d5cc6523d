use Rattle.std.proofs.Common.{All, take}
use Rattle.tk_resolve.specs.Known.{RunsTask}
use Rattle.tk_resolve.proofs.known_run.are_named.Given as goal

-- each task so far runs an earlier Task
abbrev pub invariant-loop-task : goal.invariant-loop-task
invariant-loop-task l = All RunsTask (take l.task-index l.tasks)
