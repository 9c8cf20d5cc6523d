use Rattle.std.proofs.Common.{◌≡◌, ◌++◌, drop, filter}
use Rattle.tk_outcome.specs.Walked.{once_each as firsts_of}
use Rattle.tk_outcome.proofs.Firsts.{unseen}
use Rattle.tk_outcome.proofs.fetching.once_each.Given as goal

-- what is kept, and of the results that are left those with other names, are the first ones
abbrev pub invariant-loop-spec : goal.invariant-loop-spec
invariant-loop-spec l = l.firsts.items ++ filter (unseen l.firsts.items) (firsts_of (drop l.spec-index l.specs)) ≡ firsts_of l.specs
