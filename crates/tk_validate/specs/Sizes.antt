-- Sizes within the limits: of a pipeline's tasks, of a Task's steps, and of retries.
use Rattle.std.specs.Prelude.{ℕ, ◌+◌, Bool, nat_lt, [], ◌∷◌, length, None, codes}
use Rattle.tk_types.specs.declared.task.PipelineTask.{PipelineTask}
use Rattle.tk_types.specs.declared.task.TaskSpec.{TaskSpec}
use Rattle.tk_types.specs.declared.object.ItemObject.{ItemObject}
use Rattle.tk_types.specs.declared.object.ItemObject.TheVariants.{TaskRun}
use Rattle.tk_types.specs.declared.object.PipelineSpec.{PipelineSpec}
use Rattle.tk_types.specs.Fault.{too_large}
use Rattle.tk_types.specs.Limits.{most_retries, most_steps, most_tasks}
use Rattle.tk_types.specs.Place.{Place, ◌▸◌}
use Rattle.tk_types.specs.First.{Finding, first_of, refused_if}
use Rattle.tk_validate.specs.Parts.{RuleOn, on_pipeline, on_task_spec, on_inlined, on_each_task}

-- the count is over the limit
abbrev pub over : ℕ → Place → ℕ → Finding
over limit at count = refused_if (nat_lt limit count) (too_large at limit count)

abbrev pub steps_within : RuleOn TaskSpec
steps_within at spec = over most_steps (at ▸ codes "steps") (length spec.steps)

abbrev pub retries_within : RuleOn ℕ
retries_within at retries = over most_retries (at ▸ codes "retries") retries

abbrev pub task_within : Bool → RuleOn PipelineTask
task_within is_last at task = first_of (on_inlined steps_within at task.source ∷ retries_within at task.retries ∷ [])

-- the tasks of `finally` are counted too
unfoldable pub pipeline_within : RuleOn PipelineSpec
pipeline_within at pipeline =
    first_of (over most_tasks (at ▸ codes "tasks") (length pipeline.tasks + length pipeline.finally) ∷ on_each_task task_within at pipeline ∷ [])

abbrev pub run_within : RuleOn ItemObject
run_within at (TaskRun run) = retries_within at run.retries
run_within at _ = None

abbrev pub sizes : RuleOn ItemObject
sizes at object = first_of (on_pipeline pipeline_within at object ∷ on_task_spec steps_within at object ∷ run_within at object ∷ [])
