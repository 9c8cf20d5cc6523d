use Rattle.std.proofs.Common.{◌≡◌, ◌++◌, drop, filter, is_some}
use Rattle.tk_types.specs.declared.task.PipelineTask.{PipelineTask}
use Rattle.tk_validate.specs.Names.{names_of}
use Rattle.tk_validate.proofs.rules.conflicts.add_matrixed.Given as goal

-- with the names of the tasks that are left they are those of all
abbrev pub invariant-loop-task : goal.invariant-loop-task
invariant-loop-task l =
    l.names ++ names_of (filter (λ (t : PipelineTask). is_some t.matrix) (drop l.task-index l.tasks))
    ≡ l.initial.names ++ names_of (filter (λ (t : PipelineTask). is_some t.matrix) l.tasks)
