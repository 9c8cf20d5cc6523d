use Rattle.std.proofs.Common.{◌≡◌, ◌++◌, drop}
use Rattle.std.specs.Prelude.{filter_map}
use Rattle.tk_bind.specs.Params.{param_in}
use Rattle.tk_verdict.proofs.emit.params_with_values.Given as goal

-- the parameters so far, and those of the rest, are the whole
abbrev pub invariant-loop-param : goal.invariant-loop-param
invariant-loop-param l = l.made ++ filter_map (param_in l.lookup) (drop l.param-index l.params) ≡ filter_map (param_in l.lookup) l.params
