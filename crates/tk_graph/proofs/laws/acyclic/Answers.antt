use Rattle.tk_graph.proofs.TaskParents.{left_from_ranks, ranks_from_left, no_own_ancestor, acyclic_from_none}
use Rattle.tk_graph.proofs.laws.acyclic.Goals as goal

pub returns-clause-none_left : goal.returns-clause-none_left
returns-clause-none_left c = λ tasks. (left_from_ranks tasks, ranks_from_left tasks)

pub returns-clause-no_own_ancestor : goal.returns-clause-no_own_ancestor
returns-clause-no_own_ancestor c = λ tasks. (no_own_ancestor tasks, acyclic_from_none tasks)
