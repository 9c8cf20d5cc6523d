use Rattle.std.proofs.Common.{◌≡◌, ◌+◌, ◌≤◌, drop}
use Rattle.tk_held.specs.Pods.{count_failed}
use Rattle.tk_held.proofs.running.count_failed.Given as goal

abbrev pub invariant-loop-place : goal.invariant-loop-place
invariant-loop-place l = record {
  few : l.count ≤ l.place;
  rest : l.count + count_failed (drop l.place l.held) ≡ count_failed l.held;
}
