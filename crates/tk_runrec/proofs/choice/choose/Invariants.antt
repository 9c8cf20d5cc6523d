use Rattle.std.proofs.Common.{◌-◌}
use Rattle.tk_places.specs.Places.{AllBefore}
use Rattle.tk_cache.specs.Views.{seen}
use Rattle.tk_runrec.proofs.Active.{IsIdle}
use Rattle.tk_runrec.proofs.choice.choose.Given as goal

-- the runs before the place give rise to no act
abbrev pub invariant-loop-from : goal.invariant-loop-from
invariant-loop-from l = AllBefore (IsIdle (seen l.cache).view l.moment) (seen l.cache).view.runs l.from

abbrev pub decreases-loop-from : goal.decreases-loop-from
decreases-loop-from l = l.end - l.from
