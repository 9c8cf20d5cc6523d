use Rattle.std.proofs.Common.{◌≡◌, map}
use Rattle.std.specs.List.{range_with_len}
use Rattle.tk_verdict.specs.Gathered.{final_line}
use Rattle.tk_verdict.proofs.finals.final_labels.Given as goal

-- the labels so far
abbrev pub invariant-loop-k : goal.invariant-loop-k
invariant-loop-k l = l.made.items ≡ map (final_line l.facts l.labels) (range_with_len 0 l.k)
