use Rattle.std.proofs.Common.{◌≡◌, ◌++◌, take}
use Rattle.std.specs.Prelude.{flat_map}
use Rattle.tk_graph.specs.Tasks.{guard_tasks}
use Rattle.tk_graph.proofs.references.add_of_guards.Given as goal

-- the names so far stand behind those that were there
abbrev pub invariant-loop-guard : goal.invariant-loop-guard
invariant-loop-guard l = l.names ≡ l.fn.names ++ flat_map guard_tasks (take l.guard-index l.guards)
