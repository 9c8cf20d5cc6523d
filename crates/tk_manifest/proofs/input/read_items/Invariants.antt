use Rattle.std.proofs.Common.{◌≡◌, ◌++◌, length, map, drop}
use Rattle.serde_json.specs.View.{view}
use Rattle.tk_types.specs.First.{first_from}
use Rattle.tk_manifest.specs.Input.{items_from}
use Rattle.tk_manifest.specs.Item.{item}
use Rattle.tk_manifest.proofs.input.read_items.Given as goal

-- the objects so far and those that are left are all, and what is wrong first with those that are left is what is wrong first with all
abbrev pub invariant-loop-item : goal.invariant-loop-item
invariant-loop-item l = record {
  count : length l.objects ≡ l.item-index;
  made : l.objects ++ items_from l.kinds l.place l.item-index (map view (drop l.item-index l.items)) ≡ items_from l.kinds l.place 0 (map view l.items);
  left : first_from (item l.kinds) l.place l.item-index (map view (drop l.item-index l.items)) ≡ first_from (item l.kinds) l.place 0 (map view l.items);
}
