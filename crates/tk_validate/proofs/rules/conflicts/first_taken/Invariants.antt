use Rattle.std.proofs.Common.{◌≡◌, map, filter_map, drop}
use Rattle.tk_types.specs.First.{first_of}
use Rattle.tk_vars.specs.Target.{referenced}
use Rattle.tk_validate.specs.Conflicts.{taken_in_part}
use Rattle.tk_validate.proofs.rules.conflicts.first_taken.Given as goal

-- the first such task of the pieces that are left is the first of all
abbrev pub invariant-loop-piece : goal.invariant-loop-piece
invariant-loop-piece l = first_of (map (taken_in_part l.names) (filter_map referenced (drop l.piece-index l.pieces))) ≡ first_of (map (taken_in_part l.names) (filter_map referenced l.pieces))
