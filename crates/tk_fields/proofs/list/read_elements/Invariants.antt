use Rattle.std.proofs.Common.{◌≡◌, map, take, drop}
use Rattle.serde_json.specs.View.{view}
use Rattle.tk_types.specs.First.{first_from}
use Rattle.tk_fields.proofs.list.read_elements.Given as goal

-- the values are those of the elements so far, and what is wrong first with the elements that are left is what is wrong first with all
abbrev pub invariant-loop-item : goal.invariant-loop-item
invariant-loop-item g l = record {
  made : l.values.items ≡ map g.R.Reader.value_of (map view (take l.item-index l.items));
  left : first_from g.R.Reader.check l.place l.item-index (map view (drop l.item-index l.items)) ≡ first_from g.R.Reader.check l.place 0 (map view l.items);
}
