use Rattle.std.proofs.Common.{◌≡◌, ◌+◌, ◌++◌, drop, map}
use Rattle.std.specs.Prelude.{flat_map}
use Rattle.std.specs.List.{enumerate_from}
use Rattle.serde_json.specs.View.{view}
use Rattle.tk_report.specs.Json.{skipped_data_at}
use Rattle.tk_report.proofs.skipped.push_all_skipped.Given as goal

-- the skipped ones so far, and those of the tasks that are left
abbrev pub invariant-loop-index : goal.invariant-loop-index
invariant-loop-index l =
    map view l.items.items ++ flat_map (skipped_data_at l.facts l.skips) (enumerate_from (l.start + l.index) (drop l.index l.tasks)) ≡ map view l.fn.items.items ++ flat_map (skipped_data_at l.facts l.skips) (enumerate_from l.start l.tasks)
