use Rattle.std.proofs.Common.{◌≡◌, ◌++◌, drop}
use Rattle.tk_resolve.specs.Spaces.{handed_spaces}
use Rattle.tk_resolve.proofs.spaces.handed_spaces.Given as goal

-- what is made so far, and what those that are left give, are the whole
abbrev pub invariant-loop-spec : goal.invariant-loop-spec
invariant-loop-spec l = l.spaces ++ handed_spaces l.bindings l.uses (drop l.spec-index l.wanted) ≡ handed_spaces l.bindings l.uses l.wanted
