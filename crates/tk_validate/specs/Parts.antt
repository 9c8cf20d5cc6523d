-- The parts of an object of which the rules speak, with their places.
use Rattle.std.specs.Prelude.{Bool, true, false, List, [], ◌∷◌, Option, Some, None, codes}
use Rattle.tk_types.specs.declared.value.Param.{Param}
use Rattle.tk_types.specs.declared.task.PipelineTask.{PipelineTask}
use Rattle.tk_types.specs.declared.task.TaskSource.{TaskSource}
use Rattle.tk_types.specs.declared.task.TaskSource.TheVariants.{Named, Inlined}
use Rattle.tk_types.specs.declared.task.TaskSpec.{TaskSpec}
use Rattle.tk_types.specs.declared.object.ItemObject.{ItemObject}
use Rattle.tk_types.specs.declared.object.ItemObject.TheVariants.{Task, Pipeline, TaskRun, PipelineRun}
use Rattle.tk_types.specs.declared.object.PipelineSource.{PipelineSource}
use Rattle.tk_types.specs.declared.object.PipelineSource.TheVariants.{Named as NamedPipeline, Inlined as InlinedPipeline}
use Rattle.tk_types.specs.declared.object.PipelineSpec.{PipelineSpec}
use Rattle.tk_types.specs.Place.{Place, ◌▸◌}
use Rattle.tk_types.specs.First.{Finding, first_of, first_in}

-- what is wrong first with a part at its place
abbrev pub RuleOn : Type 0 → Type 0
RuleOn X = Place → X → Finding

-- a rule on an object's pipeline, if it has one; the place of an object is that of its spec
abbrev pub on_pipeline_source : RuleOn PipelineSpec → RuleOn PipelineSource
on_pipeline_source rule at (InlinedPipeline spec) = rule (at ▸ codes "pipelineSpec") spec
on_pipeline_source rule at (NamedPipeline name) = None

abbrev pub on_pipeline : RuleOn PipelineSpec → RuleOn ItemObject
on_pipeline rule at (Pipeline name spec) = rule at spec
on_pipeline rule at (PipelineRun run) = on_pipeline_source rule at run.source
on_pipeline rule at _ = None

-- an object's pipeline: a Pipeline's spec, or the spec that is inlined in a PipelineRun
abbrev pub inlined_pipeline : PipelineSource → Option PipelineSpec
inlined_pipeline (InlinedPipeline spec) = Some spec
inlined_pipeline (NamedPipeline name) = None

abbrev pub own_pipeline : ItemObject → Option PipelineSpec
own_pipeline (Pipeline name spec) = Some spec
own_pipeline (PipelineRun run) = inlined_pipeline run.source
own_pipeline _ = None

-- a rule on a spec that stands in a task or in a TaskRun
abbrev pub on_inlined : RuleOn TaskSpec → RuleOn TaskSource
on_inlined rule at (Inlined spec) = rule (at ▸ codes "taskSpec") spec
on_inlined rule at (Named name) = None

-- a rule on an object's own Task spec, if it has one
abbrev pub on_task_spec : RuleOn TaskSpec → RuleOn ItemObject
on_task_spec rule at (Task name spec) = rule at spec
on_task_spec rule at (TaskRun run) = on_inlined rule at run.source
on_task_spec rule at _ = None

-- a rule on each task of a pipeline; it is told whether the task stands in `finally`
abbrev pub on_each_task : (Bool → RuleOn PipelineTask) → RuleOn PipelineSpec
on_each_task rule at pipeline =
    first_of (first_in (rule false) (at ▸ codes "tasks") pipeline.tasks ∷ first_in (rule true) (at ▸ codes "finally") pipeline.finally ∷ [])

-- the parameters that are given to a run
abbrev pub given_params : ItemObject → List Param
given_params (PipelineRun run) = run.params
given_params (TaskRun run) = run.params
given_params _ = []
