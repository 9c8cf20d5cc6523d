use Rattle.std.proofs.Common.{◌≡◌, ◌++◌, take}
use Rattle.std.specs.List.{flat_map}
use Rattle.tk_resolve.specs.declared.due.Due.TheVariants.{AnyValue}
use Rattle.tk_resolve.specs.Due.{params_dues, seen}
use Rattle.tk_resolve.proofs.due.add_entries.Given as goal

-- the texts of the entries so far stand behind those that were there
abbrev pub invariant-loop-entry : goal.invariant-loop-entry
invariant-loop-entry l = seen l.made.items ≡ seen l.fn.made.items ++ flat_map (params_dues AnyValue) (take l.entry-index l.entries)
