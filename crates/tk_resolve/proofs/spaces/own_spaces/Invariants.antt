use Rattle.std.proofs.Common.{◌≡◌, ◌++◌, drop}
use Rattle.tk_resolve.specs.Spaces.{own_spaces}
use Rattle.tk_resolve.proofs.spaces.own_spaces.Given as goal

-- what is made so far, and what those that are left give, are the whole
abbrev pub invariant-loop-spec : goal.invariant-loop-spec
invariant-loop-spec l = l.spaces ++ own_spaces l.bindings (drop l.spec-index l.wanted) ≡ own_spaces l.bindings l.wanted
