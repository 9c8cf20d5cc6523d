use Rattle.std.proofs.Common.{◌≡◌, drop}
use Rattle.std.specs.List.{list_any}
use Rattle.tk_types.specs.declared.value.Param.{Param}
use Rattle.tk_early.specs.Settled.{value_awaits}
use Rattle.tk_early.proofs.settled.params_await.Given as goal

-- those that are left decide
abbrev pub invariant-loop-param : goal.invariant-loop-param
invariant-loop-param l = list_any (λ (p : Param). value_awaits p.value) (drop l.param-index l.params) ≡ list_any (λ (p : Param). value_awaits p.value) l.params
