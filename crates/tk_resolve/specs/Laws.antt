-- What holds of resolved runs.
use Rattle.std.specs.Prelude.{◌≡◌, ◌+◌, ◌⊎◌, ℕ, List, [], ◌++◌, Some, All, Contains, length}
use Rattle.std.specs.List.{zip}
use Rattle.tk_types.specs.Behaviour.{tasks_of}
use Rattle.tk_types.specs.declared.task.PipelineTask.{PipelineTask}
use Rattle.tk_types.specs.declared.task.TaskBody.{TaskBody}
use Rattle.tk_types.specs.declared.run.RunSpec.{RunSpec}
use Rattle.tk_types.specs.declared.object.Item.{Item}
use Rattle.tk_types.specs.declared.object.ItemObject.{ItemObject}
use Rattle.tk_types.specs.declared.object.ItemObject.TheVariants.{Pipeline}
use Rattle.tk_types.specs.declared.object.PipelineSource.{PipelineSource}
use Rattle.tk_types.specs.declared.object.PipelineSource.TheVariants.{Named as NamedPipeline, Inlined as InlinedPipeline}
use Rattle.tk_types.specs.declared.object.PipelineSpec.{PipelineSpec}
use Rattle.tk_types.specs.declared.object.RunObject.{RunObject}
use Rattle.tk_bind.specs.Readings.{ReadsParams, ReadsPipelineTask, ReadsTaskSpec}
use Rattle.tk_resolve.specs.Run.{pipeline_of}
use Rattle.tk_resolve.specs.TaskRun.{spec_of}

-- the run has nothing to do
pub record HasNoTasks (spec : RunSpec) : Type 0 where
  pub tasks : spec.tasks ≡ []
  pub finally : spec.finally ≡ []
  pub bodies : spec.bodies ≡ []
  pub results : spec.results ≡ []

-- its tasks and results are those of a pipeline
pub record HasTasksOf (pipeline : PipelineSpec) (spec : RunSpec) : Type 0 where
  pub tasks : spec.tasks ≡ pipeline.tasks
  pub finally : spec.finally ≡ pipeline.finally
  pub results : spec.results ≡ pipeline.results

-- its tasks and results are those of the pipeline that it runs
abbrev pub HasItsTasks : List Item → RunObject → RunSpec → Type 0
HasItsTasks earlier run spec = (pipeline : PipelineSpec) × (pipeline_of earlier run.source ≡ Some pipeline) × HasTasksOf pipeline spec

-- it has one body a task
abbrev pub HasOneBodyEach : RunSpec → Type 0
HasOneBodyEach spec = length spec.bodies ≡ length spec.tasks + length spec.finally

-- each of its tasks runs the spec that its source names
abbrev pub RunsItsTasks : List Item → RunSpec → Type 0
RunsItsTasks earlier spec = All (λ (t : PipelineTask × TaskBody). spec_of earlier t.0.source ≡ Some t.1.spec) (zip (tasks_of spec) spec.bodies)

-- each of its texts has a reading
pub record ReadsRunSpec (spec : RunSpec) : Type 0 where
  pub tasks : All ReadsPipelineTask (spec.tasks ++ spec.finally)
  pub bodies : All (λ (body : TaskBody). ReadsTaskSpec body.spec) spec.bodies
  pub results : ReadsParams spec.results

-- the object is one of these items
abbrev pub StandsAmong : List Item → ItemObject → Type 0
StandsAmong items object = (item : Item) × (Contains items item) × (item.object ≡ object)

-- the source is this spec itself, or the name of an earlier Pipeline that has it
abbrev pub IsSourceOf : List Item → PipelineSpec → PipelineSource → Type 0
IsSourceOf earlier pipeline source =
    (source ≡ InlinedPipeline pipeline) ⊎ ((name : List ℕ) × (source ≡ NamedPipeline name) × StandsAmong earlier (Pipeline name pipeline))
