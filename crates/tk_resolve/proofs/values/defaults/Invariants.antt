use Rattle.std.proofs.Common.{◌≡◌, ◌++◌, drop}
use Rattle.tk_resolve.specs.Values.{defaults}
use Rattle.tk_resolve.proofs.values.defaults.Given as goal

-- what is made so far, and what those that are left give, are the whole
abbrev pub invariant-loop-spec : goal.invariant-loop-spec
invariant-loop-spec l = l.params ++ defaults (drop l.spec-index l.wanted) ≡ defaults l.wanted
