use Rattle.std.proofs.Common.{◌≡◌, [], arith}
use Rattle.tk_cache.specs.Views.{seen}
use Rattle.tk_pod_cache.proofs.Listed.{first_marked}
use Rattle.tk_pod_cache.proofs.pod_cache.PodCache.relist.Goals as goal

pub invariant_of-self : goal.invariant_of-self
invariant_of-self c =
    let first : c.empty.result.fronts.pods ≡ 0 = let none = c.empty.ensures.within.pods in omega (arith, none) in
    first_marked (seen c.empty.result) [] c.empty.ensures first c.no_marks.result
