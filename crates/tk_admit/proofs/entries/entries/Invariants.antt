use Rattle.std.proofs.Common.{◌≡◌, ◌++◌, map}
use Rattle.tk_admit.specs.Taken.{entry_of}
use Rattle.tk_admit.proofs.entries.entries.Given as goal

-- the entries so far, and those of the runs that are left
abbrev pub invariant-loop-run : goal.invariant-loop-run
invariant-loop-run l = l.entries.items ++ map (entry_of l.root) l.run-iterator.rest.items ≡ map (entry_of l.root) l.fn.runs.items
