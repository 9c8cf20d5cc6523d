use Rattle.tk_cache.specs.Views.{seen}
use Rattle.tk_run_cache.proofs.Activity.{AreActiveTo}
use Rattle.tk_run_cache.proofs.marking.judge_all.Given as goal

-- the runs so far are judged
abbrev pub invariant-loop-place : goal.invariant-loop-place
invariant-loop-place l = AreActiveTo (seen l.cache).view l.place l.active
