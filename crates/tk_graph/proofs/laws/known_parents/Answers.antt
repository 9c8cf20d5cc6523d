use Rattle.tk_graph.proofs.UnknownFrom.{known_where_none, none_where_known}
use Rattle.tk_graph.proofs.laws.known_parents.Goals as goal

pub returns : goal.returns
returns c = λ tasks. (known_where_none tasks, none_where_known tasks)
