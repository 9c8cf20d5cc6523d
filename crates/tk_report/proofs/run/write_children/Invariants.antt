use Rattle.std.proofs.Common.{◌≡◌, ◌-◌, ◌++◌, length}
use Rattle.std.specs.Prelude.{flat_map, string_bytes}
use Rattle.std.specs.List.{range_with_len}
use Rattle.tk_journal.specs.Effects.{bindings_for}
use Rattle.tk_cache.specs.Views.{seen}
use Rattle.tk_report.specs.Report.{child_at, child_lines}
use Rattle.tk_report.proofs.run.write_children.Given as goal

-- the lines so far, and those of the children that are left
abbrev pub invariant-loop-index : goal.invariant-loop-index
invariant-loop-index l =
    string_bytes l.text ++ flat_map (child_at (seen l.objects).view l.run l.task) (range_with_len l.index (length (bindings_for l.place l.run.scheduled) - l.index)) ≡ string_bytes l.fn.text ++ child_lines (seen l.objects).view l.run l.place l.task
