use Rattle.std.proofs.Common.{◌≡◌, ◌++◌, map, take}
use Rattle.tk_verdict.proofs.emitted.add.Given as goal

-- the results so far are added
abbrev pub invariant-loop-param : goal.invariant-loop-param
invariant-loop-param l = map (λ result. result.param.now) l.all.items ≡ map (λ result. result.param.now) l.initial.all.items ++ take l.param-index l.params
