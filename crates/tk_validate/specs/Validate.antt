-- What is wrong first with one object by the rules on it.
use Rattle.std.specs.Prelude.{List, [], ◌∷◌, map, codes}
use Rattle.tk_types.specs.declared.object.Item.{Item}
use Rattle.tk_types.specs.declared.object.ItemObject.{ItemObject}
use Rattle.tk_types.specs.Place.{◌▸◌}
use Rattle.tk_types.specs.First.{Finding, first_of}
use Rattle.tk_validate.specs.Parts.{RuleOn}
use Rattle.tk_validate.specs.Sizes.{sizes}
use Rattle.tk_validate.specs.Names.{duplicates}
use Rattle.tk_validate.specs.Types.{types}
use Rattle.tk_validate.specs.Conflicts.{conflicts}
use Rattle.tk_validate.specs.Finally.{finally_rules}
use Rattle.tk_validate.specs.Workspaces.{undeclared_workspaces}
use Rattle.tk_validate.specs.Texts.{texts}
use Rattle.tk_validate.specs.Cycle.{cycles}
use Rattle.tk_validate.specs.Timeouts.{timeouts}

-- the rules in their order
abbrev pub rules : List (RuleOn ItemObject)
rules = sizes ∷ duplicates ∷ types ∷ conflicts ∷ finally_rules ∷ undeclared_workspaces ∷ texts ∷ cycles ∷ timeouts ∷ []

-- the first fault of an object, at places in its spec
abbrev pub item_fault : Item → Finding
item_fault item = first_of (map (λ rule. rule (item.place ▸ codes "spec") item.object) rules)
