use Rattle.std.proofs.Common.{length, ◌-◌, ◌≤◌, ◌≡◌}
use Rattle.tk_system.proofs.file_disk.fill.Given as goal

abbrev pub invariant-loop-done : goal.invariant-loop-done
invariant-loop-done g l = record {
  within : l.done ≤ length l.buf;
  room : length l.buf ≡ length l.initial.buf;
}

abbrev pub decreases-loop-done : goal.decreases-loop-done
decreases-loop-done g l = length l.initial.buf - l.done
