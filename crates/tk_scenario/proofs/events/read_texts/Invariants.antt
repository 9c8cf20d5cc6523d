use Rattle.std.proofs.Common.{◌≡◌, ◌++◌, length, map, drop}
use Rattle.serde_json.specs.View.{view}
use Rattle.tk_scenario.specs.Scenario.{events_from, first_bad_event}
use Rattle.tk_scenario.proofs.events.read_texts.Given as goal

-- the events so far and those that are left are all, and what is wrong first with the texts that are left is what is wrong first with all
abbrev pub invariant-loop-item : goal.invariant-loop-item
invariant-loop-item l = record {
  count : length l.events ≡ l.item-index;
  made : l.events ++ events_from l.counts l.reading (map view (drop l.item-index l.items)) ≡ events_from l.counts 0 (map view l.items);
  left : first_bad_event l.counts l.place l.item-index l.reading (map view (drop l.item-index l.items)) ≡ first_bad_event l.counts l.place 0 0 (map view l.items);
}
