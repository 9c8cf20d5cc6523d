use Rattle.std.proofs.Common.{◌≡◌, length}
use Rattle.std.specs.Str.{IsUtf8}
use Rattle.tk_vars.specs.Task.{begins_task_within}
use Rattle.tk_vars.proofs.tasks.begins_task_within.Given as goal

-- the places that are passed are none
abbrev pub invariant-loop-front : goal.invariant-loop-front
invariant-loop-front l = IsUtf8 l.rest × (begins_task_within l.rest ≡ begins_task_within l.text)

abbrev pub decreases-loop-front : goal.decreases-loop-front
decreases-loop-front l = length l.rest
