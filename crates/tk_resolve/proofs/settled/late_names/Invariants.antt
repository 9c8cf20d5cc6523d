use Rattle.std.proofs.Common.{◌≡◌, map, take}
use Rattle.std.specs.List.{filter}
use Rattle.tk_types.specs.declared.value.Param.{Param}
use Rattle.tk_resolve.specs.Settled.{is_late}
use Rattle.tk_resolve.proofs.settled.late_names.Given as goal

-- the names of the late ones of the parameters so far
abbrev pub invariant-loop-param : goal.invariant-loop-param
invariant-loop-param l = l.names ≡ map (λ (p : Param). p.name) (filter is_late (take l.param-index l.task.params))
