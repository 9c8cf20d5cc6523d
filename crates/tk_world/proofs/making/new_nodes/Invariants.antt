use Rattle.tk_world.specs.Whole.{AreNewNodes}
use Rattle.tk_world.proofs.making.new_nodes.Given as goal

abbrev pub invariant-loop-number : goal.invariant-loop-number
invariant-loop-number l = AreNewNodes l.scripts l.number l.nodes.items
