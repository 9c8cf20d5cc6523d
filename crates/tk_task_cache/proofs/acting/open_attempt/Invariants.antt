use Rattle.std.proofs.Common.{◌≡◌, drop}
use Rattle.tk_task_cache.specs.Acting.{open_from}
use Rattle.tk_task_cache.proofs.acting.open_attempt.Given as goal

abbrev pub invariant-loop-place : goal.invariant-loop-place
invariant-loop-place l = open_from 0 l.fn.attempts ≡ open_from l.place (drop l.place l.fn.attempts)
