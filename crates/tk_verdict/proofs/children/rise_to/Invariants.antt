use Rattle.tk_verdict.proofs.Indexes.{Rise}
use Rattle.tk_verdict.proofs.children.rise_to.Given as goal

-- each child so far has its place as its index
abbrev pub invariant-loop-place : goal.invariant-loop-place
invariant-loop-place l = Rise l.children l.place
