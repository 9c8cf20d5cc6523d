use Rattle.std.proofs.Common.{◌≡◌}
use Rattle.tk_types.specs.declared.scenario.Kind.TheVariants as kinds
use Rattle.tk_cache.specs.Fronts.{Shows, with_front}
use Rattle.tk_cache.specs.Views.{seen}
use Rattle.tk_task_cache.specs.Acting.{AreQueued}
use Rattle.tk_task_cache.proofs.advance.advance_pods.Given as goal

-- the front is at the place, and the TaskRuns that may act are marked
abbrev pub invariant-loop-place : goal.invariant-loop-place
invariant-loop-place l = record {
  fronts : l.cache.fronts ≡ with_front kinds.Pods l.place l.fn.cache.fronts;
  shows : Shows (seen l.cache) l.journal.history;
  queued : AreQueued (seen l.cache).view l.queue;
}
