use Rattle.std.proofs.Common.{◌≡◌, drop}
use Rattle.std.specs.List.{flat_map}
use Rattle.tk_resolve.specs.Due.{task_dues}
use Rattle.tk_resolve.specs.Misuse.{any_misuse}
use Rattle.tk_resolve.proofs.run_reason.tasks_misuse.Given as goal

-- the tasks that are left decide
abbrev pub invariant-loop-task : goal.invariant-loop-task
invariant-loop-task l = any_misuse l.declarers (flat_map task_dues (drop l.task-index l.tasks)) ≡ any_misuse l.declarers (flat_map task_dues l.tasks)
