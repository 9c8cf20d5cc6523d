use Rattle.std.proofs.Common.{◌≡◌}
use Rattle.tk_types.specs.declared.scenario.Kind.TheVariants as kinds
use Rattle.tk_cache.specs.Fronts.{Shows, with_front}
use Rattle.tk_cache.specs.Views.{seen}
use Rattle.tk_run_cache.specs.Active.{AreActive}
use Rattle.tk_run_cache.proofs.marking.advance_runs.Given as goal

-- the front is at the place, and the runs that can get an entry are marked
abbrev pub invariant-loop-place : goal.invariant-loop-place
invariant-loop-place l = record {
  fronts : l.cache.fronts ≡ with_front kinds.Runs l.place l.fn.cache.fronts;
  shows : Shows (seen l.cache) l.journal.history;
  active : AreActive (seen l.cache).view l.active;
}
