use Rattle.std.proofs.Common.{◌≡◌, [], arith}
use Rattle.tk_cache.specs.Views.{seen}
use Rattle.tk_run_cache.proofs.Passed.{none_labelled}
use Rattle.tk_run_cache.proofs.labelled_cache.LabelledCache.empty.Goals as goal

pub invariant_of-result : goal.invariant_of-result
invariant_of-result c =
    let first : c.empty.result.fronts.runs ≡ 0 = let none = c.empty.ensures.within.runs in omega (arith, none) in
    none_labelled (seen c.empty.result) [] c.empty.ensures first c.new.result c.new.ensures.empty
