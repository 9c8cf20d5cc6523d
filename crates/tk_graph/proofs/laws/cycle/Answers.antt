use Rattle.tk_graph.proofs.TaskParents.{left_is_cyclic}
use Rattle.tk_graph.proofs.laws.cycle.Goals as goal

pub returns : goal.returns
returns c = λ tasks some. left_is_cyclic tasks some
