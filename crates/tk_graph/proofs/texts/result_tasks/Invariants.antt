use Rattle.std.proofs.Common.{◌≡◌, map, take}
use Rattle.tk_graph.specs.Results.{result_tasks}
use Rattle.tk_graph.proofs.texts.result_tasks.Given as goal

-- the names so far are those of the texts so far
abbrev pub invariant-loop-text : goal.invariant-loop-text
invariant-loop-text l = l.names ≡ result_tasks (map (λ t. t.now) (take l.text-index l.text-items))
