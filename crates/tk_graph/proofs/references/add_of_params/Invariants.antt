use Rattle.std.proofs.Common.{◌≡◌, ◌++◌, take}
use Rattle.std.specs.Prelude.{flat_map}
use Rattle.tk_graph.specs.Tasks.{param_tasks}
use Rattle.tk_graph.proofs.references.add_of_params.Given as goal

-- the names so far stand behind those that were there
abbrev pub invariant-loop-param : goal.invariant-loop-param
invariant-loop-param l = l.names ≡ l.fn.names ++ flat_map param_tasks (take l.param-index l.params)
