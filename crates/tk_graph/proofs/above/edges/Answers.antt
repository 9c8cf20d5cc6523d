use Rattle.std.proofs.Common.{◌∙◌, ap, map}
use Rattle.std.proofs.lemmas.List.{take_all}
use Rattle.tk_types.specs.declared.task.PipelineTask.{PipelineTask}
use Rattle.tk_types.specs.Lists.{places_where}
use Rattle.tk_graph.specs.Parents.{is_parent}
use Rattle.tk_graph.proofs.TaskParents.{map-parents}
use Rattle.tk_graph.proofs.above.edges.Goals as goal

pub returns : goal.returns
returns c =
    c.loop-task.invariant
    ∙ (ap (map (λ (task : PipelineTask). places_where (λ parent. is_parent parent task) c.args.names.now)) (take_all c.loop-task.task-index c.tasks-tasks.result.now c.loop-task-test.false ∙ c.tasks-tasks.ensures)
    ∙ map-parents c.args.names.now)
