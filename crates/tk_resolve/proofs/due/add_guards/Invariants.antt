use Rattle.std.proofs.Common.{◌≡◌, ◌++◌, take}
use Rattle.std.specs.List.{flat_map}
use Rattle.tk_resolve.specs.Due.{guard_dues, seen}
use Rattle.tk_resolve.proofs.due.add_guards.Given as goal

-- the texts of the expressions so far stand behind those that were there
abbrev pub invariant-loop-guard : goal.invariant-loop-guard
invariant-loop-guard l = seen l.made.items ≡ seen l.fn.made.items ++ flat_map guard_dues (take l.guard-index l.guards)
