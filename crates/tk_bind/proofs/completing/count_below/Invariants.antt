use Rattle.std.proofs.Common.{◌≡◌, true, take}
use Rattle.std.specs.List.{list_all}
use Rattle.tk_bind.specs.Completing.{is_below}
use Rattle.tk_bind.proofs.completing.count_below.Given as goal

-- each pair so far stands below the key
abbrev pub invariant-loop-place : goal.invariant-loop-place
invariant-loop-place l = list_all (is_below l.key) (take l.place l.pairs) ≡ true
