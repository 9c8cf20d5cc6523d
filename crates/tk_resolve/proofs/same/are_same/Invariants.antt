use Rattle.std.proofs.Common.{◌≡◌, take}
use Rattle.tk_resolve.proofs.same.are_same.Given as goal

-- the things so far are the same
abbrev pub invariant-loop-place : goal.invariant-loop-place
invariant-loop-place g l = take l.place l.first ≡ take l.place l.second
