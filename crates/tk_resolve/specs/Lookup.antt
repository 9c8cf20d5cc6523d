-- The Tasks and Pipelines among the objects that stand earlier in the input (Tekton, Pipelines, Adding Tasks to the Pipeline).
use Rattle.std.specs.Prelude.{ℕ, if◌then◌else◌, List, Option, Some, None, bytes_eq, filter_map, find, option_map}
use Rattle.tk_types.specs.declared.task.TaskSpec.{TaskSpec}
use Rattle.tk_types.specs.declared.object.Item.{Item}
use Rattle.tk_types.specs.declared.object.ItemObject.{ItemObject}
use Rattle.tk_types.specs.declared.object.ItemObject.TheVariants.{Task, Pipeline}
use Rattle.tk_types.specs.declared.object.PipelineSpec.{PipelineSpec}

-- an object as a Task, and as a Pipeline: its name and its spec
abbrev pub as_task : ItemObject → Option (List ℕ × TaskSpec)
as_task (Task name spec) = Some (name, spec)
as_task object = None

abbrev pub as_pipeline : ItemObject → Option (List ℕ × PipelineSpec)
as_pipeline (Pipeline name spec) = Some (name, spec)
as_pipeline object = None

-- the first of a name
abbrev pub named : {X : Type 0} → List ℕ → List (List ℕ × X) → Option X
named {X} name entries = option_map (λ (e : List ℕ × X). e.1) (find (λ (e : List ℕ × X). bytes_eq e.0 name) entries)

-- what an entry of the name has
abbrev pub value_if : {X : Type 0} → List ℕ → Option (List ℕ × X) → Option X
value_if name None = None
value_if name (Some entry) = if bytes_eq name entry.0 then Some entry.1 else None

-- the Task, and the Pipeline, of a name
abbrev pub task_named : List Item → List ℕ → Option TaskSpec
task_named earlier name = named name (filter_map (λ (i : Item). as_task i.object) earlier)

abbrev pub pipeline_named : List Item → List ℕ → Option PipelineSpec
pipeline_named earlier name = named name (filter_map (λ (i : Item). as_pipeline i.object) earlier)
