use Rattle.tk_world.specs.Whole.{AreNewCaches}
use Rattle.tk_world.proofs.making.new_caches.Given as goal

abbrev pub invariant-loop-place : goal.invariant-loop-place
invariant-loop-place l = AreNewCaches l.place l.caches.items
