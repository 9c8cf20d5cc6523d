use Rattle.std.proofs.Common.{subst}
use Rattle.tk_cache.specs.Views.{Kept, seen}
use Rattle.tk_task_cache.specs.Acting.{AreQueued}
use Rattle.tk_task_cache.proofs.task_cache.TaskCache.queue.Goals as goal

pub returns : goal.returns
returns c = subst (λ (k : Kept). AreQueued (seen k).view c.self.inside.queue) c.self.view_is c.self.invariant
