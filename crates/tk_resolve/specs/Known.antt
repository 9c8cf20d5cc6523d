-- Runs of one Pipeline: what is found of a run holds of the next that is given values of the same shapes and the same workspaces.
use Rattle.std.specs.Prelude.{◌≡◌, ℕ, Bool, true, false, List, All, IsTrue, Some, None}
use Rattle.tk_types.specs.declared.task.PipelineTask.{PipelineTask}
use Rattle.tk_types.specs.declared.task.TaskSource.{TaskSource}
use Rattle.tk_types.specs.declared.task.TaskSource.TheVariants.{Named, Inlined}
use Rattle.tk_types.specs.declared.object.Item.{Item}
use Rattle.tk_types.specs.declared.object.PipelineSpec.{PipelineSpec}
use Rattle.tk_types.specs.declared.object.RunObject.{RunObject}
use Rattle.tk_shape.specs.ShapeEnv.{shapes_of}
use Rattle.tk_resolve.specs.declared.known_run.KnownRun.{KnownRun}
use Rattle.tk_resolve.specs.Lookup.{pipeline_named}
use Rattle.tk_resolve.specs.Run.{all_tasks, bodies_of, first_reason}

-- a task without a matrix
abbrev pub IsSingle : PipelineTask → Type 0
IsSingle task = task.matrix ≡ None

-- a task that runs an earlier Task, which sees nothing from outside
abbrev pub is_named : TaskSource → Bool
is_named (Named name) = true
is_named (Inlined spec) = false

abbrev pub RunsTask : PipelineTask → Type 0
RunsTask task = IsTrue (is_named task.source)

-- a run of the earlier Pipeline of this name, none of whose tasks has a matrix, can start with these bodies
pub record IsKnownRun (earlier : List Item) (name : List ℕ) (known : KnownRun) : Type 0 where
  pub pipeline : PipelineSpec
  pub named : pipeline_named earlier name ≡ Some pipeline
  pub single : All IsSingle (all_tasks pipeline)
  pub found : bodies_of earlier known.run.now pipeline ≡ Some known.bodies
  pub starts : first_reason known.run.now pipeline known.bodies ≡ None
  pub alone : IsTrue known.alone → All RunsTask (all_tasks pipeline)

-- two runs are given values of the same shapes and the same workspaces
abbrev pub AreGivenAlike : RunObject → RunObject → Type 0
AreGivenAlike a b = (shapes_of a.params ≡ shapes_of b.params) × (a.bindings ≡ b.bindings)
