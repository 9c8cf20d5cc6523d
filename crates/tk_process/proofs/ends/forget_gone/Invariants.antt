use Rattle.std.proofs.Common.{vec_len}
use Rattle.tk_process.proofs.ends.forget_gone.Given as goal

abbrev pub decreases-loop-number : goal.decreases-loop-number
decreases-loop-number g l = vec_len l.leaving
