use Rattle.std.proofs.Common.{◌≡◌, ◌++◌, drop}
use Rattle.tk_space.specs.Space.{folders_of}
use Rattle.tk_taskrec.proofs.planning.folders_of.Given as goal

-- what is made so far, and what those that are left give, are the whole
abbrev pub invariant-loop-spec : goal.invariant-loop-spec
invariant-loop-spec l = l.folders ++ folders_of l.root l.pod (drop l.spec-index l.specs) l.bound ≡ folders_of l.root l.pod l.specs l.bound
