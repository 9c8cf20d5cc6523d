use Rattle.std.proofs.Common.{◌≡◌, take}
use Rattle.tk_verdict.proofs.sorted.copied.Given as goal

-- the children so far
abbrev pub invariant-loop-child : goal.invariant-loop-child
invariant-loop-child l = l.copied.items ≡ take l.child-index l.children
