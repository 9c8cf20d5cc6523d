use Rattle.std.proofs.Common.{◌≡◌, map, take, drop}
use Rattle.serde_json.specs.View.{view}
use Rattle.tk_manifest.specs.Outcomes.{first_low, stop_of}
use Rattle.tk_manifest.proofs.outcomes.read_stops.Given as goal

-- the stops are those so far, and what is wrong first with those that are left is what is wrong first with all
abbrev pub invariant-loop-item : goal.invariant-loop-item
invariant-loop-item l = record {
  made : l.stops ≡ map stop_of (map view (take l.item-index l.items));
  left : first_low l.place l.level l.item-index (map view (drop l.item-index l.items)) ≡ first_low l.place 0 0 (map view l.items);
}
