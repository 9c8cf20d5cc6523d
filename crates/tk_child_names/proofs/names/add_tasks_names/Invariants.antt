use Rattle.std.proofs.Common.{◌≡◌, ◌++◌, take}
use Rattle.std.specs.List.{flat_map}
use Rattle.tk_journal.specs.Names.{task_names}
use Rattle.tk_child_names.proofs.names.add_tasks_names.Given as goal

-- the names of the tasks so far stand behind those that were there
abbrev pub invariant-loop-task : goal.invariant-loop-task
invariant-loop-task l = l.names ≡ l.initial.names ++ flat_map (task_names l.values) (take l.task-index l.tasks)
