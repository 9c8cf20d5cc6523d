use Rattle.std.proofs.Common.{◌≡◌, ◌++◌, take}
use Rattle.tk_types.proofs.list.List.push_all.Given as goal

-- the elements so far are added
abbrev pub invariant-loop-item : goal.invariant-loop-item
invariant-loop-item g l = l.self ≡ l.initial.self ++ take l.item-index l.items
