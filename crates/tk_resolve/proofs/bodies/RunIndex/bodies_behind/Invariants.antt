use Rattle.std.proofs.Common.{◌≡◌, ◌++◌, Option, map, drop}
use Rattle.std.specs.Option.{option_map}
use Rattle.tk_types.specs.declared.task.PipelineTask.{PipelineTask}
use Rattle.tk_types.specs.declared.task.TaskBody.{TaskBody}
use Rattle.tk_types.specs.Lists.{all_some}
use Rattle.tk_resolve.specs.Run.{body_of}
use Rattle.tk_resolve.proofs.bodies.RunIndex.bodies_behind.Given as goal

-- what is made so far, and what those that are left give, are the whole
abbrev pub invariant-loop-task : goal.invariant-loop-task
invariant-loop-task l =
    let body : PipelineTask → Option TaskBody = λ t. body_of l.earlier l.self.0 l.self.1 t t.source in
    option_map (λ more. l.bodies ++ more) (all_some (map body (drop l.task-index l.tasks))) ≡ option_map (λ more. l.initial.bodies ++ more) (all_some (map body l.tasks))
