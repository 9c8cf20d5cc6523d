use Rattle.std.proofs.Common.{◌≡◌, ◌-◌, ◌++◌, length, map}
use Rattle.std.specs.Prelude.{flat_map}
use Rattle.std.specs.List.{range_with_len}
use Rattle.serde_json.specs.View.{view}
use Rattle.tk_journal.specs.Effects.{bindings_for}
use Rattle.tk_cache.specs.Views.{seen}
use Rattle.tk_report.specs.Json.{child_data_at, children_data}
use Rattle.tk_report.proofs.json.push_children.Given as goal

-- the children so far, and those that are left
abbrev pub invariant-loop-index : goal.invariant-loop-index
invariant-loop-index l =
    map view l.items.items ++ flat_map (child_data_at (seen l.objects).view l.run l.task) (range_with_len l.index (length (bindings_for l.place l.run.scheduled) - l.index)) ≡ map view l.fn.items.items ++ children_data (seen l.objects).view l.run (l.place, l.task)
