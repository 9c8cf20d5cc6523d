use Rattle.std.proofs.Common.{◌≡◌, length, take}
use Rattle.std.specs.List.{zip}
use Rattle.tk_resolve.specs.Run.{all_tasks}
use Rattle.tk_resolve.proofs.misuse.declarers.Given as goal

-- the tasks so far with their bodies
abbrev pub invariant-loop-task : goal.invariant-loop-task
invariant-loop-task l = l.made.items ≡ take (length l.yielded) (zip (all_tasks l.pipeline) l.bodies)
