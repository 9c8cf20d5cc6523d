use Rattle.std.proofs.Common.{◌≡◌, ◌++◌, take}
use Rattle.tk_graph.specs.Results.{result_tasks}
use Rattle.tk_graph.proofs.references.add_of_texts.Given as goal

-- the names so far stand behind those that were there
abbrev pub invariant-loop-text : goal.invariant-loop-text
invariant-loop-text l = l.names ≡ l.fn.names ++ result_tasks (take l.text-index l.texts)
