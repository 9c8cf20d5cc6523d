use Rattle.std.proofs.Common.{◌≡◌, take}
use Rattle.tk_labels.proofs.kids.copies.Given as goal

-- the children so far
abbrev pub invariant-loop-child : goal.invariant-loop-child
invariant-loop-child l = l.made ≡ take l.child-index l.children
