use Rattle.std.proofs.Common.{◌≡◌, map, take}
use Rattle.serde_json.specs.View.{view}
use Rattle.tk_report.specs.Json.{guard_data}
use Rattle.tk_report.proofs.data.guards_data.Given as goal

-- those so far
abbrev pub invariant-loop-guard : goal.invariant-loop-guard
invariant-loop-guard l = map view l.items.items ≡ map guard_data (take l.guard-index l.guards)
