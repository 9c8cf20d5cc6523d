use Rattle.std.proofs.Common.{◌≡◌, take}
use Rattle.tk_shape.specs.Shape.{keys_of}
use Rattle.tk_resolve.proofs.alike.have_same_keys.Given as goal

-- the keys so far are the same
abbrev pub invariant-loop-place : goal.invariant-loop-place
invariant-loop-place l = keys_of (take l.place l.first) ≡ keys_of (take l.place l.second)
