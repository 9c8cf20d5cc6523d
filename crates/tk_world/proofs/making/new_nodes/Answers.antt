use Rattle.std.proofs.Common.{◌+◌, sym, subst}
use Rattle.tk_world.specs.Whole.{AreNewNodes}
use Rattle.tk_world.proofs.Started.{nodes_more}
use Rattle.tk_world.proofs.making.new_nodes.Goals as goal

pub loop-number-preserved : goal.loop-number-preserved
loop-number-preserved c =
    subst (AreNewNodes c.args.scripts.now (c.loop-number.number + 1)) (sym c.in_ok-push.ensures.items) (nodes_more c.args.scripts.now c.loop-number.number c.loop-number.nodes.items c.in_ok-new.field-0 c.loop-number.invariant c.in_ok-new.ensures)
