use Rattle.std.proofs.Common.{◌≡◌, take}
use Rattle.tk_admit.specs.Apart.{Differ, standalone_names}
use Rattle.tk_admit.proofs.apart.standalone_differ.Given as goal

-- the names so far, which differ
abbrev pub invariant-loop-run : goal.invariant-loop-run
invariant-loop-run l = (l.names ≡ standalone_names (take l.run-index l.runs)) × Differ l.names
