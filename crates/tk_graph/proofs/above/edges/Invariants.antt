use Rattle.std.proofs.Common.{◌≡◌, take, map}
use Rattle.tk_types.specs.declared.task.PipelineTask.{PipelineTask}
use Rattle.tk_types.specs.Lists.{places_where}
use Rattle.tk_graph.specs.Parents.{is_parent}
use Rattle.tk_graph.proofs.above.edges.Given as goal

-- the lists so far are the parents of the tasks so far
abbrev pub invariant-loop-task : goal.invariant-loop-task
invariant-loop-task l = l.above ≡ map (λ (task : PipelineTask). places_where (λ parent. is_parent parent task) l.names) (take l.task-index l.tasks)
