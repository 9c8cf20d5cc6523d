use Rattle.std.proofs.Common.{◌≡◌, ◌+◌, ◌++◌, drop}
use Rattle.std.specs.Prelude.{flat_map, string_bytes}
use Rattle.std.specs.List.{enumerate_from}
use Rattle.tk_commands.specs.Due.{task_line}
use Rattle.tk_commands.proofs.due.write_labels.Given as goal

-- the lines so far, and those of the tasks that are left
abbrev pub invariant-loop-index : goal.invariant-loop-index
invariant-loop-index l =
    string_bytes l.text ++ flat_map (task_line l.labels) (enumerate_from (l.start + l.index) (drop l.index l.tasks)) ≡ string_bytes l.fn.text ++ flat_map (task_line l.labels) (enumerate_from l.start l.tasks)
