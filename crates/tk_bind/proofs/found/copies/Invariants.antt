use Rattle.std.proofs.Common.{◌≡◌, take}
use Rattle.tk_bind.proofs.found.copies.Given as goal

-- the copies so far are the elements so far
abbrev pub invariant-loop-item : goal.invariant-loop-item
invariant-loop-item g l = l.copies ≡ take l.item-index l.items
