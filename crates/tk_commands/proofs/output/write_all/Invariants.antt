use Rattle.std.proofs.Common.{◌≡◌, ◌-◌, ◌≤◌, length, take}
use Rattle.std.specs.Io.KnownBytes.{Appends}
use Rattle.tk_commands.proofs.output.write_all.Given as goal

-- the front of the text is written, and no write has failed
abbrev pub invariant-loop-start : goal.invariant-loop-start
invariant-loop-start g l =
    (l.start ≤ length l.text) × Appends (g.W.Sink.written l.fn.sink) (g.W.Sink.written l.sink) (take l.start l.text) × (g.W.Sink.faults l.sink ≡ g.W.Sink.faults l.fn.sink)

abbrev pub decreases-loop-start : goal.decreases-loop-start
decreases-loop-start g l = length l.text - l.start
