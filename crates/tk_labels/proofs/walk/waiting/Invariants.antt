use Rattle.std.proofs.Common.{◌≡◌, vec_len}
use Rattle.tk_labels.proofs.walk.waiting.Given as goal

-- there is one for each turn so far
abbrev pub invariant-loop : goal.invariant-loop
invariant-loop l = vec_len l.labels ≡ l.counter
