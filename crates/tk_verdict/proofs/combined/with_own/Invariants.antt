use Rattle.std.proofs.Common.{◌≡◌, ◌++◌, map, take}
use Rattle.tk_verdict.proofs.combined.with_own.Given as goal

-- the combinations so far have the task's own parameters in front
abbrev pub invariant-loop-combination : goal.invariant-loop-combination
invariant-loop-combination l = l.made ≡ map (λ c. l.own ++ c) (take l.combination-index l.combinations)
