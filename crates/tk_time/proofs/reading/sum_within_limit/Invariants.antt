use Rattle.std.proofs.Common.{◌≡◌, ◌+◌, ◌≤◌, length}
use Rattle.std.specs.Prelude.{option_map}
use Rattle.tk_time.specs.Duration.{sum_of_parts, longest_duration}
use Rattle.tk_time.proofs.reading.sum_within_limit.Given as goal

-- the sum so far and that of the rest are the whole sum
abbrev pub invariant-loop-rest : goal.invariant-loop-rest
invariant-loop-rest l = record {
  low : l.sum ≤ longest_duration;
  whole : option_map (λ more. l.sum + more) (sum_of_parts (length l.rest) l.rest) ≡ sum_of_parts (length l.text) l.text;
}

abbrev pub decreases-loop-rest : goal.decreases-loop-rest
decreases-loop-rest l = length l.rest
