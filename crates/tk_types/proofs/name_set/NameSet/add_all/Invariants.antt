use Rattle.std.proofs.Common.{◌≡◌, ◌++◌, drop, map}
use Rattle.tk_types.proofs.name_set.NameSet.add_all.Given as goal

-- what is there so far, and the names that are left, are the whole
abbrev pub invariant-loop-item : goal.invariant-loop-item
invariant-loop-item g l = l.self ++ map g.T.Named.name (drop l.item-index l.items) ≡ l.initial.self ++ map g.T.Named.name l.items
