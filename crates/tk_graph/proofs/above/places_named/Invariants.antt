use Rattle.std.proofs.Common.{◌≡◌, take, bytes_eq}
use Rattle.std.specs.List.{list_any}
use Rattle.tk_types.specs.declared.task.PipelineTask.{PipelineTask}
use Rattle.tk_types.specs.Lists.{places_where}
use Rattle.tk_graph.proofs.above.places_named.Given as goal

-- the places so far are those of the tasks so far
abbrev pub invariant-loop-place : goal.invariant-loop-place
invariant-loop-place l = l.places ≡ places_where (λ (t : PipelineTask). list_any (λ name. bytes_eq name t.name) l.names) (take l.place l.tasks)
