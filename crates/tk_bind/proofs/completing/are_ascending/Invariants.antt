use Rattle.std.proofs.Common.{◌≡◌, ℕ, ◌+◌, ◌<◌, true, get_or}
use Rattle.tk_types.specs.declared.value.Pair.{Pair}
use Rattle.tk_bind.specs.Completing.{is_below}
use Rattle.tk_bind.proofs.completing.are_ascending.Given as goal

-- each pair so far stands below the key of the next one
abbrev pub invariant-loop-place : goal.invariant-loop-place
invariant-loop-place l = (k : ℕ) (d : Pair) → k + 1 < l.place → is_below (get_or l.pairs (k + 1) d).key (get_or l.pairs k d) ≡ true
