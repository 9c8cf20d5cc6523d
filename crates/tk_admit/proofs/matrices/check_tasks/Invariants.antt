use Rattle.std.proofs.Common.{◌≡◌, map, take, drop}
use Rattle.std.specs.Prelude.{All}
use Rattle.tk_types.specs.First.{first_of}
use Rattle.tk_admit.specs.Objects.{task_oversize}
use Rattle.tk_admit.specs.Sound.{HasFewChildren}
use Rattle.tk_admit.proofs.matrices.check_tasks.Given as goal

-- what is wrong first with the tasks that are left is what is wrong first with all, and those so far have few children
abbrev pub invariant-loop-task : goal.invariant-loop-task
invariant-loop-task l =
    record {
      found : first_of (map (task_oversize l.place l.values) (drop l.task-index l.tasks)) ≡ first_of (map (task_oversize l.place l.values) l.tasks);
      few : All (HasFewChildren l.values) (take l.task-index l.tasks);
    }
