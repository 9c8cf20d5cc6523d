use Rattle.std.proofs.Common.{◌≡◌, ◌++◌, drop, map}
use Rattle.std.specs.Prelude.{flat_map}
use Rattle.serde_json.specs.View.{view}
use Rattle.tk_cache.specs.Views.{seen}
use Rattle.tk_report.specs.Admitted.{named}
use Rattle.tk_report.specs.Json.{data_at}
use Rattle.tk_report.proofs.json.objects_data.Given as goal

-- the objects so far, and those that are left
abbrev pub invariant-loop-object : goal.invariant-loop-object
invariant-loop-object l =
    map view l.items.items ++ flat_map (data_at (seen l.objects).view) (map named (drop l.object-index l.found)) ≡ flat_map (data_at (seen l.objects).view) (map named l.found)
