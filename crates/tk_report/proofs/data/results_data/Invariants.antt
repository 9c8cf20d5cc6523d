use Rattle.std.proofs.Common.{◌≡◌, map, take}
use Rattle.serde_json.specs.View.{view}
use Rattle.tk_report.specs.Json.{result_data}
use Rattle.tk_report.proofs.data.results_data.Given as goal

-- those so far
abbrev pub invariant-loop-result : goal.invariant-loop-result
invariant-loop-result l = map view l.items.items ≡ map result_data (take l.result-index l.results)
