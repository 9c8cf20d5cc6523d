use Rattle.std.proofs.Common.{◌≡◌, map}
use Rattle.std.specs.List.{range_with_len}
use Rattle.tk_verdict.specs.Good.{is_good_at}
use Rattle.tk_verdict.proofs.good.good_tasks.Given as goal

-- the tasks so far
abbrev pub invariant-loop-place : goal.invariant-loop-place
invariant-loop-place l = l.good.items ≡ map (is_good_at l.facts) (range_with_len 0 l.place)
