-- A workspace that a pipeline task hands on is one that the pipeline declares (Tekton, Workspaces, Using Workspaces in Pipelines).
use Rattle.std.specs.Prelude.{ℕ, Bool, not, List, map, codes}
use Rattle.tk_types.specs.declared.task.PipelineTask.{PipelineTask}
use Rattle.tk_types.specs.declared.task.SpaceSpec.{SpaceSpec}
use Rattle.tk_types.specs.declared.task.SpaceUse.{SpaceUse}
use Rattle.tk_types.specs.declared.object.ItemObject.{ItemObject}
use Rattle.tk_types.specs.declared.object.PipelineSpec.{PipelineSpec}
use Rattle.tk_types.specs.Fault.{bad_choice}
use Rattle.tk_types.specs.Place.{◌▸◌}
use Rattle.tk_types.specs.First.{first_in, refused_if}
use Rattle.tk_types.specs.Names.{is_in}
use Rattle.tk_validate.specs.Parts.{RuleOn, on_pipeline, on_each_task}

abbrev pub names_of_spaces : List SpaceSpec → List (List ℕ)
names_of_spaces spaces = map (λ (s : SpaceSpec). s.name) spaces

abbrev pub is_declared : List (List ℕ) → RuleOn SpaceUse
is_declared names at handed = refused_if (not (is_in names handed.from)) (bad_choice at)

unfoldable pub task_hands_on : List (List ℕ) → Bool → RuleOn PipelineTask
task_hands_on names is_last at task = first_in (is_declared names) (at ▸ codes "workspaces") task.spaces

unfoldable pub pipeline_hands_on : RuleOn PipelineSpec
pipeline_hands_on at pipeline = on_each_task (task_hands_on (names_of_spaces pipeline.spaces)) at pipeline

abbrev pub undeclared_workspaces : RuleOn ItemObject
undeclared_workspaces at object = on_pipeline pipeline_hands_on at object
