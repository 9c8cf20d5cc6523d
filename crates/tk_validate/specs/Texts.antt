-- Each text that is substituted has a reading, names what it may, and uses it by its type; each name in `runAfter` is that of a task.
use Rattle.std.specs.Prelude.{ℕ, Bool, true, false, not, if◌then◌else◌, List, [], ◌∷◌, ◌++◌, map, Option, Some, None, codes, is_some, option_map, option_and_then}
use Rattle.std.specs.Option.{option_or}
use Rattle.tk_types.specs.declared.value.Param.{Param}
use Rattle.tk_types.specs.declared.task.PipelineTask.{PipelineTask}
use Rattle.tk_types.specs.declared.task.TaskSpec.{TaskSpec}
use Rattle.tk_types.specs.declared.object.ItemObject.{ItemObject}
use Rattle.tk_types.specs.declared.object.PipelineSpec.{PipelineSpec}
use Rattle.tk_types.specs.Fault.{bad_reference, unknown_variable, unknown_task, wrong_type}
use Rattle.tk_types.specs.Place.{◌▸◌}
use Rattle.tk_types.specs.First.{first_of, first_in, refused_if}
use Rattle.tk_vars.specs.declared.reference.Reference.{Reference}
use Rattle.tk_vars.specs.Offset.{bad_offset}
use Rattle.tk_vars.specs.Target.{references_of}
use Rattle.tk_graph.specs.Tasks.{part_task}
use Rattle.tk_bind.specs.declared.scope.Scope.{Scope}
use Rattle.tk_bind.specs.Check.{first_failing}
use Rattle.tk_types.specs.Names.{is_in}
use Rattle.tk_bind.specs.Scope.{is_visible, is_well_typed, status_task}
use Rattle.tk_validate.specs.declared.seen.Seen.{Seen}
use Rattle.tk_validate.specs.Parts.{RuleOn, on_pipeline, on_task_spec, on_inlined, on_each_task, given_params}
use Rattle.tk_validate.specs.Names.{names_of}
use Rattle.tk_validate.specs.Seen.{given_seen, pipeline_seen, task_seen, pipeline_scope, step_scope, pipeline_context, task_context}
use Rattle.tk_validate.specs.Sited.{TextRule, in_own_params, in_own_matrix, in_guards, in_results, in_steps}

-- the task that a reference names and that isn't there: a result is of any task of the scope, a status of one of `tasks`
abbrev pub unless_in : List (List ℕ) → List ℕ → Option (List ℕ)
unless_in names task = if is_in names task then None else Some task

abbrev pub unknown_of : List (List ℕ) → Scope → Reference → Option (List ℕ)
unknown_of firsts scope r =
    option_or (option_and_then (unless_in scope.tasks) (part_task r.parts)) (option_and_then (unless_in firsts) (status_task r.parts))

-- the text has no reading; or else a reference isn't visible; or else a task is unknown; or else a reference is used against its type
unfoldable pub text_finding : List (List ℕ) → Scope → TextRule
text_finding firsts scope whole at text =
    first_of
    (option_map (bad_reference at) (bad_offset text)
    ∷ option_map (unknown_variable at) (first_failing (is_visible scope) text)
    ∷ option_map (unknown_task at) (first_of (map (unknown_of firsts scope) (references_of text)))
    ∷ refused_if (is_some (first_failing (is_well_typed scope whole) text)) (wrong_type at)
    ∷ [])

-- each name in `runAfter` is that of a task of `tasks`
abbrev pub runs_after_known : List (List ℕ) → RuleOn (List ℕ)
runs_after_known firsts at name = refused_if (not (is_in firsts name)) (unknown_task at name)

-- the texts of a Task's steps
unfoldable pub step_texts : List Seen → List (List ℕ) → RuleOn TaskSpec
step_texts outside context at spec = in_steps (text_finding [] (step_scope outside context spec)) at spec

-- a spec inlined in a pipeline task sees what the task gives and what the pipeline sees, and the context variables of both
unfoldable pub inlined_texts : List Seen → PipelineTask → RuleOn TaskSpec
inlined_texts outer task at spec = step_texts (task_seen outer task) (pipeline_context ++ task_context) at spec

abbrev pub task_texts : List (List ℕ) → List Seen → Scope → Bool → RuleOn PipelineTask
task_texts firsts outer scope is_last at task =
    first_of
    (on_inlined (inlined_texts outer task) at task.source
    ∷ in_own_params (text_finding firsts scope) at task
    ∷ in_own_matrix (text_finding firsts scope) at task
    ∷ first_in (runs_after_known firsts) (at ▸ codes "runAfter") task.run_after
    ∷ in_guards (text_finding firsts scope) at task
    ∷ [])

unfoldable pub pipeline_texts : List Param → RuleOn PipelineSpec
pipeline_texts given at pipeline =
    let outer = pipeline_seen given pipeline in
    let firsts = names_of pipeline.tasks in
    first_of
    (on_each_task (task_texts firsts outer (pipeline_scope false outer pipeline)) at pipeline
    ∷ in_results (text_finding firsts (pipeline_scope true outer pipeline)) at pipeline.results
    ∷ [])

-- a Task that stands alone sees what is given to its run
unfoldable pub alone_texts : List Param → RuleOn TaskSpec
alone_texts given at spec = step_texts (given_seen given) task_context at spec

abbrev pub texts : RuleOn ItemObject
texts at object =
    first_of
    (on_pipeline (pipeline_texts (given_params object)) at object
    ∷ on_task_spec (alone_texts (given_params object)) at object
    ∷ [])
