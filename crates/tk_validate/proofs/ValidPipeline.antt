-- What the rules together say of an object's own pipeline.
use Rattle.std.proofs.Common.{◌≡◌, ◌+◌, ◌≤◌, List, ◌++◌, length, map, Some, None}
use Rattle.std.specs.Prelude.{All, AllPairs, IsTrue, codes}
use Rattle.std.specs.List.{list_all}
use Rattle.tk_types.specs.declared.task.PipelineTask.{PipelineTask}
use Rattle.tk_types.specs.declared.object.Item.{Item}
use Rattle.tk_types.specs.declared.object.ItemObject.{ItemObject}
use Rattle.tk_types.specs.declared.object.PipelineSpec.{PipelineSpec}
use Rattle.tk_types.specs.Fault.{cycle}
use Rattle.tk_types.specs.Place.{Place, ◌▸◌}
use Rattle.tk_graph.specs.Cycle.{cycle_names}
use Rattle.tk_graph.specs.Parents.{IsAcyclic, parent_names}
use Rattle.tk_graph.specs.Unknown.{is_known}
use Rattle.tk_validate.specs.Cycle.{acyclic}
use Rattle.tk_validate.specs.Finally.{pipeline_obeys}
use Rattle.tk_validate.specs.Names.{pipeline_names}
use Rattle.tk_validate.specs.Parts.{RuleOn, given_params, on_pipeline, own_pipeline}
use Rattle.tk_validate.specs.Sizes.{pipeline_within}
use Rattle.tk_validate.specs.Texts.{pipeline_texts}
use Rattle.tk_validate.specs.Validate.{item_fault, rules}
use Rattle.tk_validate.proofs.FewTasks.{few_in_all}
use Rattle.tk_validate.proofs.FirstNone.{first_none, map_none, all_none}
use Rattle.tk_validate.proofs.KnownParents.{Obeys, Reaches, all_known, all_obey, all_reach}
use Rattle.tk_validate.proofs.OwnPipeline.{own_none}
use Rattle.tk_validate.proofs.TasksDiffer.{Differ, tasks_differ_all}

-- the tasks can be ranked where no cycle is told
abbrev pub KnowsOrder : Type 0
KnowsOrder = (tasks : List PipelineTask) → cycle_names tasks ≡ None → IsAcyclic tasks

no_cycle_told : (at : Place) (pipeline : PipelineSpec) → acyclic at pipeline ≡ None → cycle_names pipeline.tasks ≡ None
unfolding acyclic
no_cycle_told at pipeline e = map_none (cycle (at ▸ codes "tasks")) (cycle_names pipeline.tasks) e

module _ (item : Item) (pipeline : PipelineSpec) (is : own_pipeline item.object ≡ Some pipeline) (e : item_fault item ≡ None) where
  abbrev at : Place
  at = item.place ▸ codes "spec"

  pub few : length pipeline.tasks + length pipeline.finally ≤ 5000
  few =
      let found = all_none (map (λ (rule : RuleOn ItemObject). rule at item.object) rules) e in
      own_none pipeline_within (λ p. length p.tasks + length p.finally ≤ 5000) few_in_all at item.object pipeline is (first_none (on_pipeline pipeline_within at item.object) _ found.0)

  pub names : AllPairs Differ (pipeline.tasks ++ pipeline.finally)
  names =
      let found = all_none (map (λ (rule : RuleOn ItemObject). rule at item.object) rules) e in
      own_none pipeline_names (λ p. AllPairs Differ (p.tasks ++ p.finally)) tasks_differ_all at item.object pipeline is (first_none (on_pipeline pipeline_names at item.object) _ found.1.0)

  pub parents : All (λ (task : PipelineTask). IsTrue (list_all (is_known pipeline.tasks) (parent_names task))) (pipeline.tasks ++ pipeline.finally)
  parents =
      let found = all_none (map (λ (rule : RuleOn ItemObject). rule at item.object) rules) e in
      let given = given_params item.object in
      all_known pipeline
      (own_none (pipeline_texts given) (λ p. All (Reaches p) (p.tasks ++ p.finally)) (λ here p none. all_reach p given here none) at item.object pipeline is (first_none (on_pipeline (pipeline_texts given) at item.object) _ found.1.1.1.1.1.1.0))
      (own_none pipeline_obeys (λ p. All (Obeys p) (p.tasks ++ p.finally)) (λ here p none. all_obey p here none) at item.object pipeline is (first_none (on_pipeline pipeline_obeys at item.object) _ found.1.1.1.1.0))

  pub order : KnowsOrder → IsAcyclic pipeline.tasks
  order knows =
      let found = all_none (map (λ (rule : RuleOn ItemObject). rule at item.object) rules) e in
      own_none acyclic (λ p. IsAcyclic p.tasks) (λ here p none. knows p.tasks (no_cycle_told here p none)) at item.object pipeline is found.1.1.1.1.1.1.1.0
