use Rattle.std.proofs.Common.{◌≡◌, map}
use Rattle.std.specs.List.{range_with_len}
use Rattle.tk_verdict.specs.Sequence.{ranked_at}
use Rattle.tk_verdict.proofs.sequence.unsorted.Given as goal

-- the tasks so far are those of the places so far
abbrev pub invariant-loop-place : goal.invariant-loop-place
invariant-loop-place l = l.tasks.items ≡ map (ranked_at l.ranks) (range_with_len 0 l.place)
