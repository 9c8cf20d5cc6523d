use Rattle.std.proofs.Common.{◌≡◌, ◌+◌, ◌*◌, ◌^◌, ◌≤◌, take}
use Rattle.tk_time.specs.Duration.{number_of}
use Rattle.tk_time.proofs.reading.number_of.Given as goal

-- the number of the digits so far, which has no more places than these
abbrev pub invariant-loop-digit : goal.invariant-loop-digit
invariant-loop-digit l = record {
  value : l.number ≡ number_of (take l.digit-index l.digits);
  bound : l.number + 23 ≤ 23 * 10 ^ l.digit-index;
}
