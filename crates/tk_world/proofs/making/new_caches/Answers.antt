use Rattle.std.proofs.Common.{◌+◌, sym, subst}
use Rattle.tk_world.specs.Whole.{AreNewCaches}
use Rattle.tk_world.proofs.Started.{caches_more}
use Rattle.tk_world.proofs.making.new_caches.Goals as goal

pub loop-place-preserved : goal.loop-place-preserved
loop-place-preserved c =
    subst (AreNewCaches (c.loop-place.place + 1)) (sym c.in_ok-push.ensures.items) (caches_more c.loop-place.place c.loop-place.caches.items c.empty.result c.loop-place.invariant c.empty.ensures)
