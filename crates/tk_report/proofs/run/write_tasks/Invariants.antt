use Rattle.std.proofs.Common.{◌≡◌, ◌+◌, ◌++◌, drop}
use Rattle.std.specs.Prelude.{flat_map, string_bytes}
use Rattle.std.specs.List.{enumerate_from}
use Rattle.tk_cache.specs.Views.{seen}
use Rattle.tk_report.specs.Report.{task_lines}
use Rattle.tk_report.proofs.run.write_tasks.Given as goal

-- the lines so far, and those of the tasks that are left
abbrev pub invariant-loop-index : goal.invariant-loop-index
invariant-loop-index l =
    string_bytes l.text ++ flat_map (task_lines (seen l.objects).view l.run) (enumerate_from (l.start + l.index) (drop l.index l.tasks)) ≡ string_bytes l.fn.text ++ flat_map (task_lines (seen l.objects).view l.run) (enumerate_from l.start l.tasks)
