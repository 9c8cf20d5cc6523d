use Rattle.std.proofs.Common.{◌≡◌, ◌++◌, take}
use Rattle.tk_taken_names.proofs.taken.TakenNames.add.Given as goal

-- the names so far are taken
abbrev pub invariant-loop-name : goal.invariant-loop-name
invariant-loop-name l = l.self ≡ l.initial.self ++ take l.name-index l.names
