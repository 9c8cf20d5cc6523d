use Rattle.std.proofs.Common.{◌≡◌, not, take}
use Rattle.std.specs.List.{filter}
use Rattle.tk_resolve.specs.Settled.{is_late}
use Rattle.tk_resolve.proofs.settled.early_params.Given as goal

-- the early ones of the parameters so far
abbrev pub invariant-loop-param : goal.invariant-loop-param
invariant-loop-param l = l.early ≡ filter (λ p. not (is_late p)) (take l.param-index l.task.params)
