use Rattle.tk_cache.specs.Views.{seen}
use Rattle.tk_task_cache.proofs.Queue.{nothing_queued}
use Rattle.tk_task_cache.proofs.task_cache.TaskCache.empty.Goals as goal

pub invariant_of-result : goal.invariant_of-result
invariant_of-result c = nothing_queued (seen c.empty.result) c.empty.ensures c.new.result
