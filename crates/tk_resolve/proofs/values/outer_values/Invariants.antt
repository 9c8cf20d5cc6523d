use Rattle.std.proofs.Common.{◌≡◌, take}
use Rattle.tk_resolve.specs.Values.{outer_values}
use Rattle.tk_resolve.proofs.values.outer_values.Given as goal

-- the values so far
abbrev pub invariant-loop-param : goal.invariant-loop-param
invariant-loop-param l = l.values ≡ outer_values l.wanted (take l.param-index l.given)
