use Rattle.std.proofs.Common.{◌≡◌, length, sum_by, take}
use Rattle.std.specs.List.{zip}
use Rattle.tk_early.specs.Possible.{told_count}
use Rattle.tk_types.specs.Behaviour.{tasks_of}
use Rattle.tk_journal.specs.Weight.{task_weight}
use Rattle.tk_admit.proofs.weight.tasks_weight.Given as goal

-- the weight of the tasks so far
abbrev pub invariant-loop-task : goal.invariant-loop-task
invariant-loop-task l = l.total ≡ told_count (sum_by (task_weight l.spec) (take (length l.yielded) (zip (tasks_of l.spec) l.spec.bodies)))
