use Rattle.std.proofs.Common.{◌≡◌, ◌++◌, drop}
use Rattle.tk_resolve.specs.Values.{undeclared}
use Rattle.tk_resolve.proofs.values.push_undeclared.Given as goal

-- what is made so far, and what those that are left give, are the whole
abbrev pub invariant-loop-param : goal.invariant-loop-param
invariant-loop-param l = l.params ++ undeclared l.wanted (drop l.param-index l.given) ≡ l.initial.params ++ undeclared l.wanted l.given
