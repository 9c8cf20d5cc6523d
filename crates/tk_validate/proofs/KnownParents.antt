-- Each parent that a task names, of a pipeline that the rules pass, is a task of `tasks`.
use Rattle.std.proofs.Common.{◌≡◌, ℕ, Bool, true, false, List, [], ◌∷◌, ◌++◌, None, ◌∙◌, sym}
use Rattle.std.specs.Prelude.{All, IsTrue, codes}
use Rattle.std.specs.List.{list_all}
use Rattle.std.proofs.lemmas.Bool.{not-false}
use Rattle.std.proofs.lemmas.List.Elements.{All-append}
use Rattle.std.proofs.lemmas.List.Sums.{list_all-from_AllPass}
use Rattle.tk_types.specs.declared.value.Param.{Param}
use Rattle.tk_types.specs.declared.task.PipelineTask.{PipelineTask}
use Rattle.tk_types.specs.declared.object.PipelineSpec.{PipelineSpec}
use Rattle.tk_types.specs.Fault.{unknown_task}
use Rattle.tk_types.specs.First.{first_in}
use Rattle.tk_types.specs.Place.{Place, ◌▸◌}
use Rattle.tk_graph.specs.Parents.{parent_names}
use Rattle.tk_graph.specs.Results.{guards_texts, matrix_texts, params_texts, result_tasks, text_tasks}
use Rattle.tk_graph.specs.Unknown.{is_known}
use Rattle.tk_types.specs.Names.{is_in}
use Rattle.tk_validate.specs.declared.seen.Seen.{Seen}
use Rattle.tk_validate.specs.Finally.{names_either, names_no, pipeline_obeys, refused_in_own, runs_free, steps_name_neither, task_obeys}
use Rattle.tk_validate.specs.Names.{names_of}
use Rattle.tk_validate.specs.Parts.{on_inlined}
use Rattle.tk_validate.specs.Seen.{pipeline_scope, pipeline_seen}
use Rattle.tk_validate.specs.Sited.{in_guards, in_own_matrix, in_own_params}
use Rattle.tk_validate.specs.Texts.{inlined_texts, pipeline_texts, runs_after_known, task_texts, text_finding}
use Rattle.tk_validate.proofs.EachText.{all_of, of_guards, of_own_matrix, of_own_params}
use Rattle.tk_validate.proofs.FirstNone.{first_none, all_none, each_none, not_refused}
use Rattle.tk_validate.proofs.KnownTasks.{NamesNoneOf, NamesOf, known_in, known_tasks, names_neither, names_no_own, names_of_scope}

module _ (pipeline : PipelineSpec) where
  abbrev pub Known : List ℕ → Type 0
  Known name = is_known pipeline.tasks name ≡ true

  abbrev pub Named : List ℕ → Type 0
  Named text = NamesOf (names_of pipeline.tasks ++ names_of pipeline.finally) text

  abbrev pub Apart : List ℕ → Type 0
  Apart text = NamesNoneOf (names_of pipeline.finally) text

  -- what the rule on texts says of a task, and what the rule on `finally` does
  pub record Reaches (task : PipelineTask) : Type 0 where
    pub own : All Named (params_texts task.params ++ matrix_texts task.matrix)
    pub after : All Known task.run_after
    pub guards : All Named (guards_texts task.when)

  pub record Obeys (task : PipelineTask) : Type 0 where
    pub own : All Apart (params_texts task.params ++ matrix_texts task.matrix)
    pub guards : All Apart (guards_texts task.when)

  runs_after : (at : Place) (name : List ℕ) → runs_after_known (names_of pipeline.tasks) at name ≡ None → Known name
  runs_after at name e =
      let firsts = names_of pipeline.tasks in
      sym (known_in pipeline.tasks name) ∙ not-false (is_in firsts name) (not_refused _ (unknown_task at name) e)

  reaches : (outer : List Seen) (is_last : Bool) (at : Place) (task : PipelineTask) → task_texts (names_of pipeline.tasks) outer (pipeline_scope false outer pipeline) is_last at task ≡ None → Reaches task
  reaches outer is_last at task e =
      let firsts = names_of pipeline.tasks in
      let scope = pipeline_scope false outer pipeline in
      let rule = text_finding firsts scope in
      let found =
      all_none
      (on_inlined (inlined_texts outer task) at task.source
      ∷ in_own_params rule at task
      ∷ in_own_matrix rule at task
      ∷ first_in (runs_after_known firsts) (at ▸ codes "runAfter") task.run_after
      ∷ in_guards rule at task
      ∷ [])
      e in
      record {
        own =
            All-append Named (params_texts task.params) (matrix_texts task.matrix)
            (of_own_params rule Named (names_of_scope firsts scope) at task found.1.0)
            (of_own_matrix rule Named (names_of_scope firsts scope) at task found.1.1.0);
        after = each_none (runs_after_known firsts) Known runs_after (at ▸ codes "runAfter") task.run_after found.1.1.1.0;
        guards = of_guards rule Named (names_of_scope firsts scope) at task found.1.1.1.1.0;
      }

  obeys : (is_last : Bool) (at : Place) (task : PipelineTask) → task_obeys (names_of pipeline.finally) is_last at task ≡ None → Obeys task
  obeys is_last at task e =
      let lasts = names_of pipeline.finally in
      let own_rule = names_no (refused_in_own lasts is_last) in
      let rule = names_no (names_either lasts) in
      let found =
      all_none
      (on_inlined (steps_name_neither lasts) at task.source
      ∷ in_own_params own_rule at task
      ∷ in_own_matrix rule at task
      ∷ runs_free is_last at task
      ∷ in_guards own_rule at task
      ∷ [])
      e in
      record {
        own =
            All-append Apart (params_texts task.params) (matrix_texts task.matrix)
            (of_own_params own_rule Apart (names_no_own lasts is_last) at task found.1.0)
            (of_own_matrix rule Apart (names_neither lasts) at task found.1.1.0);
        guards = of_guards own_rule Apart (names_no_own lasts is_last) at task found.1.1.1.1.0;
      }

  known_of : (texts : List (List ℕ)) → All Named texts → All Apart texts → All Known (result_tasks texts)
  known_of texts named apart = all_of Known text_tasks texts (λ k d inside. known_tasks pipeline.tasks pipeline.finally _ (named k d inside) (apart k d inside))

  knows : (task : PipelineTask) → Reaches task → Obeys task → IsTrue (list_all (is_known pipeline.tasks) (parent_names task))
  knows task reach obey =
      let own = params_texts task.params ++ matrix_texts task.matrix in
      let guards = guards_texts task.when in
      list_all-from_AllPass (is_known pipeline.tasks) (parent_names task)
      (All-append Known (result_tasks own ++ task.run_after) (result_tasks guards)
      (All-append Known (result_tasks own) task.run_after (known_of own reach.own obey.own) reach.after)
      (known_of guards reach.guards obey.guards))

  pub all_reach : (given : List Param) (at : Place) → pipeline_texts given at pipeline ≡ None → All Reaches (pipeline.tasks ++ pipeline.finally)
  unfolding pipeline_texts
  all_reach given at e =
      let outer = pipeline_seen given pipeline in
      let rule = task_texts (names_of pipeline.tasks) outer (pipeline_scope false outer pipeline) in
      let each = all_none (first_in (rule false) (at ▸ codes "tasks") pipeline.tasks ∷ first_in (rule true) (at ▸ codes "finally") pipeline.finally ∷ []) (first_none _ _ e) in
      All-append Reaches pipeline.tasks pipeline.finally
      (each_none (rule false) Reaches (reaches outer false) (at ▸ codes "tasks") pipeline.tasks each.0)
      (each_none (rule true) Reaches (reaches outer true) (at ▸ codes "finally") pipeline.finally each.1.0)

  pub all_obey : (at : Place) → pipeline_obeys at pipeline ≡ None → All Obeys (pipeline.tasks ++ pipeline.finally)
  unfolding pipeline_obeys
  all_obey at e =
      let rule = task_obeys (names_of pipeline.finally) in
      let each = all_none (first_in (rule false) (at ▸ codes "tasks") pipeline.tasks ∷ first_in (rule true) (at ▸ codes "finally") pipeline.finally ∷ []) (first_none _ _ e) in
      All-append Obeys pipeline.tasks pipeline.finally
      (each_none (rule false) Obeys (obeys false) (at ▸ codes "tasks") pipeline.tasks each.0)
      (each_none (rule true) Obeys (obeys true) (at ▸ codes "finally") pipeline.finally each.1.0)

  pub all_known : All Reaches (pipeline.tasks ++ pipeline.finally) → All Obeys (pipeline.tasks ++ pipeline.finally) → All (λ (task : PipelineTask). IsTrue (list_all (is_known pipeline.tasks) (parent_names task))) (pipeline.tasks ++ pipeline.finally)
  all_known reach obey = λ k d inside. knows _ (reach k d inside) (obey k d inside)
