use Rattle.std.proofs.Common.{◌≡◌, drop}
use Rattle.tk_cache.specs.Views.{seen}
use Rattle.tk_lives.specs.Taking.{first_some, strange_claim}
use Rattle.tk_lives.proofs.strange.first_strange.Given as goal

abbrev pub invariant-loop-place : goal.invariant-loop-place
invariant-loop-place l =
    let view = (seen l.cache).view in
    first_some (λ name. strange_claim l.nodes (view.pod name)) view.pods ≡ first_some (λ name. strange_claim l.nodes (view.pod name)) (drop l.place view.pods)
