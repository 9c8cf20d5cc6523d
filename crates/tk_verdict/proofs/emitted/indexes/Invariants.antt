use Rattle.std.proofs.Common.{◌≡◌, map, take}
use Rattle.tk_verdict.specs.Available.{emitted}
use Rattle.tk_verdict.proofs.emitted.indexes.Given as goal

-- an index of each child so far
abbrev pub invariant-loop-child : goal.invariant-loop-child
invariant-loop-child l = l.indexes.items ≡ map emitted (map (λ child. child.now) (take l.child-index l.children))
