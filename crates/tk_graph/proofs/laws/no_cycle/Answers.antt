use Rattle.tk_graph.proofs.CycleNames.{ranks_where_none, none_where_ranks}
use Rattle.tk_graph.proofs.laws.no_cycle.Goals as goal

pub returns : goal.returns
returns c = λ tasks. (ranks_where_none tasks, none_where_ranks tasks)
