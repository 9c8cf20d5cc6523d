use Rattle.std.proofs.Common.{◌≡◌}
use Rattle.tk_types.specs.declared.scenario.Kind.TheVariants as kinds
use Rattle.tk_cache.specs.Fronts.{Shows, with_front}
use Rattle.tk_cache.specs.Views.{seen}
use Rattle.tk_pod_cache.specs.Marks.{ArePodsMarked}
use Rattle.tk_pod_cache.proofs.advance.advance_pods.Given as goal

-- the front is at the place, and the pods that are seen are marked
abbrev pub invariant-loop-place : goal.invariant-loop-place
invariant-loop-place l = record {
  fronts : l.cache.fronts ≡ with_front kinds.Pods l.place l.fn.cache.fronts;
  shows : Shows (seen l.cache) l.journal.history;
  marked : ArePodsMarked (seen l.cache).view l.marks;
}
