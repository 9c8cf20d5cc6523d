use Rattle.std.proofs.Common.{◌≡◌, drop, map}
use Rattle.tk_types.specs.First.{first_of}
use Rattle.tk_validate.specs.Validate.{item_fault}
use Rattle.tk_admit.proofs.admission.validate_each.Given as goal

-- the first fault stands among the objects that are left
abbrev pub invariant-loop-item : goal.invariant-loop-item
invariant-loop-item l = first_of (map item_fault (drop l.item-index l.items)) ≡ first_of (map item_fault l.items)
