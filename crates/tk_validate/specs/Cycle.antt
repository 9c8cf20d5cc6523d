-- No task of a pipeline waits for itself (Tekton, Pipelines, Using the runAfter field).
use Rattle.std.specs.Prelude.{codes, option_map}
use Rattle.tk_types.specs.declared.object.ItemObject.{ItemObject}
use Rattle.tk_types.specs.declared.object.PipelineSpec.{PipelineSpec}
use Rattle.tk_types.specs.Fault.{cycle}
use Rattle.tk_types.specs.Place.{◌▸◌}
use Rattle.tk_graph.specs.Cycle.{cycle_names}
use Rattle.tk_validate.specs.Parts.{RuleOn, on_pipeline}

-- the names of a cycle among the tasks that can't be ranked, if there are such
unfoldable pub acyclic : RuleOn PipelineSpec
acyclic at pipeline = option_map (cycle (at ▸ codes "tasks")) (cycle_names pipeline.tasks)

abbrev pub cycles : RuleOn ItemObject
cycles at object = on_pipeline acyclic at object
