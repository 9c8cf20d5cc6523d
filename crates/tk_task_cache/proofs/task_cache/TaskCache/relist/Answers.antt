use Rattle.std.proofs.Common.{◌≡◌, false, Ok, Err, sym, ◌∙◌}
use Rattle.std.specs.Prelude.{OnOk}
use Rattle.std.specs.Result.{is_err}
use Rattle.std.specs.declared.result.Result.{Result}
use Rattle.tk_cache.specs.Views.{seen}
use Rattle.tk_task_cache.specs.Acting.{AreQueued}
use Rattle.tk_task_cache.proofs.Queue.{nothing_queued}
use Rattle.tk_task_cache.proofs.task_cache.TaskCache.relist.Goals as goal

pub invariant_of-self : goal.invariant_of-self
invariant_of-self c = nothing_queued (seen c.empty.result) c.empty.ensures c.new.result

holds : {T E : Type 0} (P : Type 0) (r : Result T E) → is_err r ≡ false → OnOk r P → P
holds P (Ok x) fine so = so
holds P (Err e) fine so = absurd (cc (fine))

pub invariant_of-self-else-is_err : goal.invariant_of-self-else-is_err
invariant_of-self-else-is_err c =
    holds (AreQueued (seen c.relist-listed.new.cache).view c.relist-listed.new.queue) c.relist-listed.result (sym c.is_err.ensures.value ∙ c.if-is_err.false) c.relist-listed.ensures.queued
