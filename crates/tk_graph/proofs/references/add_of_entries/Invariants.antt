use Rattle.std.proofs.Common.{◌≡◌, ◌++◌, take}
use Rattle.std.specs.Prelude.{flat_map}
use Rattle.tk_graph.specs.Tasks.{entry_tasks}
use Rattle.tk_graph.proofs.references.add_of_entries.Given as goal

-- the names so far stand behind those that were there
abbrev pub invariant-loop-entry : goal.invariant-loop-entry
invariant-loop-entry l = l.names ≡ l.fn.names ++ flat_map entry_tasks (take l.entry-index l.entries)
