use Rattle.std.proofs.Common.{◌≡◌, ◌-◌, vec_len}
use Rattle.std.specs.Io.KnownBytes.{Consumes}
use Rattle.tk_commands.proofs.input.read_all.Given as goal

-- the bytes so far are those that were left, but for what is left now, and no read has failed
abbrev pub invariant-loop-piece : goal.invariant-loop-piece
invariant-loop-piece g l =
    Consumes (g.R.Source.left l.fn.input) (g.R.Source.left l.input) l.bytes.items × (g.R.Source.faults l.input ≡ g.R.Source.faults l.fn.input)

abbrev pub decreases-loop-piece : goal.decreases-loop-piece
decreases-loop-piece g l = 8388609 - vec_len l.bytes
