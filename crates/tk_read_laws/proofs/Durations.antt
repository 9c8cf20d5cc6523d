-- A duration that is read is at most a year.
use Rattle.std.proofs.Common.{◌≡◌, ℕ, ◌≤◌, Bool, true, false, List, Option, Some, None, refl, arith}
use Rattle.std.specs.Prelude.{bytes_eq, codes, if◌then◌else◌, length, nat_le, option_and_then, unwrap_or}
use Rattle.std.proofs.lemmas.Bool.{leb-true}
use Rattle.tk_types.specs.Lists.{is_empty}
use Rattle.tk_time.specs.Duration.{duration_of, longest_duration, sum_of_parts, within_limit}

limited : (millis : ℕ) (within : Bool) → nat_le millis longest_duration ≡ within → unwrap_or (if within then Some millis else None) 0 ≤ longest_duration
limited millis true is = leb-true millis longest_duration is
limited millis false is = omega arith

summed : (sum : Option ℕ) → unwrap_or (option_and_then within_limit sum) 0 ≤ longest_duration
summed None = omega arith
summed (Some millis) = limited millis (nat_le millis longest_duration) refl

by_text : (none empty : Bool) (sum : Option ℕ) → unwrap_or (if none then Some 0 else if empty then None else option_and_then within_limit sum) 0 ≤ longest_duration
by_text true empty sum = omega arith
by_text false true sum = omega arith
by_text false false sum = summed sum

pub duration_is_short : (text : List ℕ) → unwrap_or (duration_of text) 0 ≤ longest_duration
duration_is_short text = by_text (bytes_eq text (codes "0")) (is_empty text) (sum_of_parts (length text) text)
