-- Admission of an input: what is admitted, or the first fault.
use Rattle.std.specs.Prelude.{ℕ, nat_lt, List, [], ◌∷◌, map, length, codes}
use Rattle.tk_types.specs.declared.object.Item.{Item}
use Rattle.tk_types.specs.Fault.{too_large}
use Rattle.tk_types.specs.Limits.{most_objects}
use Rattle.tk_types.specs.Place.{root, ◌▸◌}
use Rattle.tk_types.specs.First.{Finding, first_of, refused_if}
use Rattle.tk_manifest.specs.declared.kinds.KindSet.{KindSet}
use Rattle.tk_manifest.specs.Input.{reading_fault, objects_of}
use Rattle.tk_validate.specs.Validate.{item_fault}
use Rattle.tk_early.specs.Possible.{told_count}
use Rattle.tk_journal.specs.declared.admitted.Admitted.{Admitted}
use Rattle.tk_admit.specs.Command.{command_facts, command_finding, the_scenario}
use Rattle.tk_admit.specs.Names.{names_finding}
use Rattle.tk_admit.specs.Objects.{objects_finding}
use Rattle.tk_admit.specs.Taken.{entry_of, taken}
use Rattle.tk_admit.specs.Weight.{weight, weight_finding}

-- the input has too many objects
abbrev pub count_finding : List Item → Finding
count_finding items = refused_if (nat_lt most_objects (length items)) (too_large (root ▸ codes "items") most_objects (length items))

-- the rules over the objects of an input, in their order
abbrev pub items_fault : KindSet → ℕ → List Item → Finding
items_fault kinds asks items =
    first_of
    (count_finding items
    ∷ first_of (map item_fault items)
    ∷ objects_finding items
    ∷ names_finding (taken items)
    ∷ weight_finding (weight asks items (taken items))
    ∷ command_finding kinds items (taken items)
    ∷ [])

-- the first fault of an input
abbrev pub input_fault : KindSet → ℕ → List ℕ → Finding
input_fault kinds asks bytes = first_of (reading_fault kinds bytes ∷ items_fault kinds asks (objects_of kinds bytes) ∷ [])

-- what is admitted of these objects
abbrev pub admitted_items : KindSet → ℕ → List ℕ → List Item → Admitted
admitted_items kinds asks root items =
    record {
      entries = map (entry_of root) (taken items);
      weight = told_count (weight asks items (taken items));
      scenario = the_scenario items;
      outcomes = command_facts kinds items (taken items);
      objects = length items;
    }

-- what is admitted of an input
abbrev pub admitted : KindSet → ℕ → List ℕ → List ℕ → Admitted
admitted kinds asks root bytes = admitted_items kinds asks root (objects_of kinds bytes)
