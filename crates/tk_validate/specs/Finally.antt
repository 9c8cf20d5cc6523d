-- What `finally` allows: its tasks run after nothing, their results go to the pipeline's results alone, and status variables stand in
-- their parameters and guards alone (Tekton, Pipelines, Adding Finally to the Pipeline).
use Rattle.std.specs.Prelude.{ℕ, Bool, not, ◌&&◌, ◌||◌, if◌then◌else◌, List, [], ◌∷◌, false, codes}
use Rattle.std.specs.List.{list_any}
use Rattle.std.specs.Option.{option_map_or}
use Rattle.tk_types.specs.declared.task.PipelineTask.{PipelineTask}
use Rattle.tk_types.specs.declared.task.TaskSpec.{TaskSpec}
use Rattle.tk_types.specs.declared.object.ItemObject.{ItemObject}
use Rattle.tk_types.specs.declared.object.PipelineSpec.{PipelineSpec}
use Rattle.tk_types.specs.Fault.{finally_rule}
use Rattle.tk_types.specs.Place.{◌▸◌}
use Rattle.tk_types.specs.First.{first_of, refused_if}
use Rattle.tk_types.specs.Lists.{is_empty}
use Rattle.tk_vars.specs.declared.reference.Reference.{Reference}
use Rattle.tk_graph.specs.Tasks.{part_task}
use Rattle.tk_types.specs.Names.{is_in}
use Rattle.tk_bind.specs.Scope.{is_status}
use Rattle.tk_validate.specs.Parts.{RuleOn, on_pipeline, on_task_spec, on_inlined, on_each_task}
use Rattle.tk_validate.specs.Named.{read_references}
use Rattle.tk_validate.specs.Names.{names_of}
use Rattle.tk_validate.specs.Sited.{TextRule, in_own_params, in_own_matrix, in_guards, in_results, in_steps}

-- a reference is to a status, or to a result of one of these tasks
abbrev pub names_status : Reference → Bool
names_status r = is_status r.parts

abbrev pub names_result_of : List (List ℕ) → Reference → Bool
names_result_of lasts r = option_map_or (is_in lasts) (part_task r.parts) false

abbrev pub names_either : List (List ℕ) → Reference → Bool
names_either lasts r = names_status r || names_result_of lasts r

-- a text names nothing of the kind
unfoldable pub names_no : (Reference → Bool) → TextRule
names_no kind whole at text = refused_if (list_any kind (read_references text)) (finally_rule at)

-- the parameters and guards of a task of `finally` may name a status
abbrev pub refused_in_own : List (List ℕ) → Bool → Reference → Bool
refused_in_own lasts is_last = if is_last then names_result_of lasts else names_either lasts

-- a task of `finally` runs after nothing
abbrev pub runs_free : Bool → RuleOn PipelineTask
runs_free is_last at task = refused_if (is_last && not (is_empty task.run_after)) (finally_rule (at ▸ codes "runAfter"))

abbrev pub steps_name_neither : List (List ℕ) → RuleOn TaskSpec
steps_name_neither lasts at spec = in_steps (names_no (names_either lasts)) at spec

abbrev pub task_obeys : List (List ℕ) → Bool → RuleOn PipelineTask
task_obeys lasts is_last at task =
    first_of
    (on_inlined (steps_name_neither lasts) at task.source
    ∷ in_own_params (names_no (refused_in_own lasts is_last)) at task
    ∷ in_own_matrix (names_no (names_either lasts)) at task
    ∷ runs_free is_last at task
    ∷ in_guards (names_no (refused_in_own lasts is_last)) at task
    ∷ [])

unfoldable pub pipeline_obeys : RuleOn PipelineSpec
pipeline_obeys at pipeline =
    first_of (on_each_task (task_obeys (names_of pipeline.finally)) at pipeline ∷ in_results (names_no names_status) at pipeline.results ∷ [])

-- a Task that stands alone has no `finally` beside it
abbrev pub finally_rules : RuleOn ItemObject
finally_rules at object = first_of (on_pipeline pipeline_obeys at object ∷ on_task_spec (steps_name_neither []) at object ∷ [])
