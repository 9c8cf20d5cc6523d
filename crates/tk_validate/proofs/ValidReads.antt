-- An object with which nothing is wrong has a reading in each of its texts.
use Rattle.std.proofs.Common.{◌≡◌, ℕ, Bool, true, false, List, [], ◌∷◌, ◌++◌, map, None}
use Rattle.std.specs.Prelude.{All, codes, option_map}
use Rattle.tk_types.specs.declared.value.Param.{Param}
use Rattle.tk_types.specs.declared.task.PipelineTask.{PipelineTask}
use Rattle.tk_types.specs.declared.task.TaskSource.TheVariants.{Named, Inlined}
use Rattle.tk_types.specs.declared.task.TaskSpec.{TaskSpec}
use Rattle.tk_types.specs.declared.object.Item.{Item}
use Rattle.tk_types.specs.declared.object.ItemObject.{ItemObject}
use Rattle.tk_types.specs.declared.object.ItemObject.TheVariants.{Task, Pipeline, TaskRun, PipelineRun, Outcomes, Scenario}
use Rattle.tk_types.specs.declared.object.PipelineSource.TheVariants.{Named as NamedPipeline, Inlined as InlinedPipeline}
use Rattle.tk_types.specs.declared.object.PipelineSpec.{PipelineSpec}
use Rattle.tk_types.specs.Fault.{bad_reference}
use Rattle.tk_types.specs.Place.{Place, ◌▸◌}
use Rattle.tk_types.specs.First.{first_in}
use Rattle.tk_vars.specs.Offset.{bad_offset}
use Rattle.tk_vars.specs.Reading.{HasReading}
use Rattle.tk_bind.specs.declared.scope.Scope.{Scope}
use Rattle.tk_bind.specs.Readings.{ReadsTaskSpec, ReadsTaskSource, ReadsPipelineTask, ReadsPipelineSpec, ReadsPipelineSource, ReadsObject}
use Rattle.tk_validate.specs.declared.seen.Seen.{Seen}
use Rattle.tk_validate.specs.Names.{names_of}
use Rattle.tk_validate.specs.Parts.{RuleOn, on_pipeline_source, on_inlined, on_each_task}
use Rattle.tk_validate.specs.Seen.{given_seen, pipeline_seen, task_seen, pipeline_scope, pipeline_context, task_context}
use Rattle.tk_validate.specs.Sited.{in_own_params, in_own_matrix, in_guards, in_results}
use Rattle.tk_validate.specs.Texts.{text_finding, runs_after_known, step_texts, inlined_texts, alone_texts, task_texts, pipeline_texts, texts}
use Rattle.tk_validate.specs.Validate.{item_fault, rules}
use Rattle.tk_validate.proofs.FirstNone.{first_none, map_none, all_none, each_none}
use Rattle.tk_validate.proofs.GoodTexts.{IsGood, reads_params, reads_own_matrix, reads_guards, reads_results, reads_steps}

abbrev pub KnowsReadings : Type 0
KnowsReadings = (text : List ℕ) → bad_offset text ≡ None → HasReading text

-- a rule on what holds texts passes only what has readings
abbrev PassesReads : {X : Type 0} → RuleOn X → (X → Type 0) → Type 0
PassesReads {X} rule P = (at : Place) (x : X) → rule at x ≡ None → P x

module _ (knows : KnowsReadings) where
  good : (firsts : List (List ℕ)) (scope : Scope) → IsGood (text_finding firsts scope)
  unfolding text_finding
  good firsts scope whole at text e = knows text (map_none (bad_reference at) (bad_offset text) (first_none (option_map (bad_reference at) (bad_offset text)) _ e))

  spec_reads : (outside : List Seen) (context : List (List ℕ)) → PassesReads (step_texts outside context) ReadsTaskSpec
  unfolding step_texts
  spec_reads outside context at spec e = reads_steps _ (good _ _) at spec e

  inlined_reads : (outer : List Seen) (task : PipelineTask) → PassesReads (inlined_texts outer task) ReadsTaskSpec
  unfolding inlined_texts
  inlined_reads outer task at spec e = spec_reads (task_seen outer task) (pipeline_context ++ task_context) at spec e

  alone_reads : (given : List Param) → PassesReads (alone_texts given) ReadsTaskSpec
  unfolding alone_texts
  alone_reads given at spec e = spec_reads (given_seen given) task_context at spec e

  source_reads : (rule : RuleOn TaskSpec) → PassesReads rule ReadsTaskSpec → PassesReads (on_inlined rule) ReadsTaskSource
  source_reads rule reads at (Named name) e = tt
  source_reads rule reads at (Inlined spec) e = reads (at ▸ codes "taskSpec") spec e

  task_reads : (firsts : List (List ℕ)) (outer : List Seen) (scope : Scope) (is_last : Bool) → PassesReads (task_texts firsts outer scope is_last) ReadsPipelineTask
  task_reads firsts outer scope is_last at task e =
      let rule = text_finding firsts scope in
      let found =
      all_none
      (on_inlined (inlined_texts outer task) at task.source
      ∷ in_own_params rule at task
      ∷ in_own_matrix rule at task
      ∷ first_in (runs_after_known firsts) (at ▸ codes "runAfter") task.run_after
      ∷ in_guards rule at task
      ∷ [])
      e in
      record {
        source = source_reads (inlined_texts outer task) (inlined_reads outer task) at task.source found.0;
        params = reads_params rule (good firsts scope) at task.params found.1.0;
        matrix = reads_own_matrix rule (good firsts scope) at task found.1.1.0;
        guards = reads_guards rule (good firsts scope) at task found.1.1.1.1.0;
      }

  each_task_reads : (firsts : List (List ℕ)) (outer : List Seen) (scope : Scope) (is_last : Bool) (at : Place) (tasks : List PipelineTask) → first_in (task_texts firsts outer scope is_last) at tasks ≡ None → All ReadsPipelineTask tasks
  each_task_reads firsts outer scope is_last at tasks e = each_none (task_texts firsts outer scope is_last) ReadsPipelineTask (task_reads firsts outer scope is_last) at tasks e

  pipeline_reads : (given : List Param) → PassesReads (pipeline_texts given) ReadsPipelineSpec
  unfolding pipeline_texts
  pipeline_reads given at pipeline e =
      let outer = pipeline_seen given pipeline in
      let firsts = names_of pipeline.tasks in
      let scope = pipeline_scope false outer pipeline in
      let last = text_finding firsts (pipeline_scope true outer pipeline) in
      let found = all_none (on_each_task (task_texts firsts outer scope) at pipeline ∷ in_results last at pipeline.results ∷ []) e in
      let each =
      all_none
      (first_in (task_texts firsts outer scope false) (at ▸ codes "tasks") pipeline.tasks
      ∷ first_in (task_texts firsts outer scope true) (at ▸ codes "finally") pipeline.finally
      ∷ [])
      found.0 in
      record {
        tasks = each_task_reads firsts outer scope false (at ▸ codes "tasks") pipeline.tasks each.0;
        finally = each_task_reads firsts outer scope true (at ▸ codes "finally") pipeline.finally each.1.0;
        results = reads_results last (good firsts (pipeline_scope true outer pipeline)) at pipeline.results found.1.0;
      }

  pipeline_source_reads : (rule : RuleOn PipelineSpec) → PassesReads rule ReadsPipelineSpec → PassesReads (on_pipeline_source rule) ReadsPipelineSource
  pipeline_source_reads rule reads at (NamedPipeline name) e = tt
  pipeline_source_reads rule reads at (InlinedPipeline spec) e = reads (at ▸ codes "pipelineSpec") spec e

  object_reads : PassesReads texts ReadsObject
  object_reads at (Task name spec) e = alone_reads [] at spec (first_none _ None e)
  object_reads at (Pipeline name spec) e = pipeline_reads [] at spec (first_none (pipeline_texts [] at spec) None e)
  object_reads at (TaskRun run) e = source_reads (alone_texts run.params) (alone_reads run.params) at run.source (first_none _ None e)
  object_reads at (PipelineRun run) e = pipeline_source_reads (pipeline_texts run.params) (pipeline_reads run.params) at run.source (first_none _ None e)
  object_reads at (Outcomes name spec) e = tt
  object_reads at (Scenario name spec) e = tt

  pub valid_reads : (item : Item) → item_fault item ≡ None → ReadsObject item.object
  valid_reads item e =
      let found = all_none (map (λ (rule : RuleOn ItemObject). rule (item.place ▸ codes "spec") item.object) rules) e in
      object_reads (item.place ▸ codes "spec") item.object found.1.1.1.1.1.1.0
