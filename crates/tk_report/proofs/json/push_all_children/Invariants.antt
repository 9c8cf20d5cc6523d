use Rattle.std.proofs.Common.{◌≡◌, ◌+◌, ◌++◌, drop, map}
use Rattle.std.specs.Prelude.{flat_map}
use Rattle.std.specs.List.{enumerate_from}
use Rattle.serde_json.specs.View.{view}
use Rattle.tk_cache.specs.Views.{seen}
use Rattle.tk_report.specs.Json.{children_data}
use Rattle.tk_report.proofs.json.push_all_children.Given as goal

-- the children so far, and those of the tasks that are left
abbrev pub invariant-loop-index : goal.invariant-loop-index
invariant-loop-index l =
    map view l.items.items ++ flat_map (children_data (seen l.objects).view l.run) (enumerate_from (l.start + l.index) (drop l.index l.tasks)) ≡ map view l.fn.items.items ++ flat_map (children_data (seen l.objects).view l.run) (enumerate_from l.start l.tasks)
