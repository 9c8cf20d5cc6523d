use Rattle.std.proofs.Common.{◌≡◌, ◌++◌, map, take}
use Rattle.tk_types.specs.declared.task.PipelineTask.{PipelineTask}
use Rattle.tk_spec_sound.proofs.names.add_names.Given as goal

-- the names of the tasks so far stand behind those that were there
abbrev pub invariant-loop-task : goal.invariant-loop-task
invariant-loop-task l = l.names ≡ l.initial.names ++ map (λ (t : PipelineTask). t.name) (take l.task-index l.tasks)
