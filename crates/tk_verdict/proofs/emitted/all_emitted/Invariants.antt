use Rattle.std.proofs.Common.{◌≡◌, flat_map, map, take}
use Rattle.tk_verdict.specs.Available.{emitted}
use Rattle.tk_verdict.proofs.emitted.all_emitted.Given as goal

-- the results of the children so far
abbrev pub invariant-loop-child : goal.invariant-loop-child
invariant-loop-child l = map (λ result. result.param.now) l.all.items ≡ flat_map emitted (map (λ child. child.now) (take l.child-index l.children))
