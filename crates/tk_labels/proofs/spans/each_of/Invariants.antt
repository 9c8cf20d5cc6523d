use Rattle.std.proofs.Common.{◌≡◌, map, take}
use Rattle.tk_labels.proofs.spans.each_of.Given as goal

-- the children so far
abbrev pub invariant-loop-child : goal.invariant-loop-child
invariant-loop-child l = map (λ child. child.now) l.made.items ≡ take l.child-index l.children
