use Rattle.std.proofs.Common.{◌≡◌, ◌++◌, drop, map}
use Rattle.tk_admit.specs.Command.{runs_of}
use Rattle.tk_admit.proofs.command.runs_of.Given as goal

-- those so far, and those that are left
abbrev pub invariant-loop-run : goal.invariant-loop-run
invariant-loop-run l = map (λ s. s.now) l.found.items ++ runs_of (drop l.run-index l.runs) ≡ runs_of l.runs
