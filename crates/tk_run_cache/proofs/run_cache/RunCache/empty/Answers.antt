use Rattle.tk_cache.specs.Views.{seen}
use Rattle.tk_run_cache.proofs.Activity.{nothing_active}
use Rattle.tk_run_cache.proofs.run_cache.RunCache.empty.Goals as goal

pub invariant_of-result : goal.invariant_of-result
invariant_of-result c = nothing_active (seen c.empty.result) c.empty.ensures c.new.result
