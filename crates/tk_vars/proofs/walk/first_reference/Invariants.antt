use Rattle.std.proofs.Common.{◌≡◌, None, find, filter_map, take}
use Rattle.tk_vars.specs.Target.{referenced}
use Rattle.tk_vars.proofs.walk.first_reference.Given as goal

-- no reference of the pieces so far meets the test
abbrev pub invariant-loop-piece : goal.invariant-loop-piece
invariant-loop-piece g l = find (g.T.ReferenceTest.is_met l.fn.test) (filter_map referenced (take l.piece-index l.pieces)) ≡ None
