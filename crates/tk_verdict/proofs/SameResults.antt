-- Two states of a run with the same spec: where a task's parents have the same children, its texts give the same.
use Rattle.std.proofs.Common.{◌≡◌, ℕ, ◌<◌, Bool, true, false, ◌&&◌, List, [], ◌∷◌, length, Option, Some, None, refl, sym, ap, ◌∙◌, inl, inr}
use Rattle.std.specs.Prelude.{Contains, IsTrue, flat_map, filter_map, find, slice_get, bytes_eq, option_map}
use Rattle.std.specs.List.{AllByRecursion, enumerate_from, cons_option, list_all}
use Rattle.std.specs.Option.{option_or}
use Rattle.std.proofs.lemmas.Bool.{cases_Bool}
use Rattle.std.proofs.lemmas.List.Elements.{Contains-append_left, All-contains}
use Rattle.std.proofs.lemmas.List.Folds.{find-append}
use Rattle.std.proofs.lemmas.List.{get_or_append_left}
use Rattle.std.proofs.lemmas.Option.{slice_get_read, get_or_from_slice_get}
use Rattle.std.proofs.lemmas.Slice.Eq.{bytes_eq-Decides}
use Rattle.tk_types.specs.declared.value.Pair.{Pair}
use Rattle.tk_types.specs.declared.value.Param.{Param}
use Rattle.tk_types.specs.declared.value.Value.{Value}
use Rattle.tk_types.specs.declared.task.PipelineTask.{PipelineTask}
use Rattle.tk_types.specs.declared.run.Facts.{Facts}
use Rattle.tk_types.specs.declared.run.Child.{Child}
use Rattle.tk_types.specs.declared.run.RunSpec.{RunSpec}
use Rattle.tk_types.specs.declared.run.Stop.{Stop}
use Rattle.tk_vars.specs.Offset.{bad_offset}
use Rattle.tk_vars.specs.Reading.{HasReading}
use Rattle.tk_graph.specs.Parents.{parent_names, is_parent}
use Rattle.tk_graph.specs.Results.{task_texts, text_results, task_results, params_texts}
use Rattle.tk_graph.specs.Unknown.{is_known}
use Rattle.tk_bind.specs.declared.env.Given.{Given}
use Rattle.tk_bind.specs.Substitute.{result_named}
use Rattle.tk_verdict.specs.Facts.{all_tasks, children_at}
use Rattle.tk_verdict.specs.Available.{available, candidates, by_index, available_of, available_results}
use Rattle.tk_verdict.specs.WellFormed.{IsWellFormed, facts_texts}
use Rattle.tk_verdict.specs.Words.{env_with}
use Rattle.tk_verdict.proofs.Elements.{each_from, enumerated, all_at}
use Rattle.tk_verdict.proofs.NamedParents.{flat_in, in_parent_names, is_parent_named, among_first}
use Rattle.tk_verdict.proofs.SameValues.{SameTask, SameText, SameResult, task_same, text_agrees}

abbrev pub KnowsReadings : Type 0
KnowsReadings = (text : List ℕ) → HasReading text → bad_offset text ≡ None

abbrev Named : Type 0
Named = List ℕ × List ℕ

-- the test by which a result is found
abbrev is_named : Named → Given → Bool
is_named named g = bytes_eq g.task named.0 && bytes_eq g.name named.1

abbrev given_of : PipelineTask → List Child → Param → Option Given
given_of task children p = option_map (λ value. record { task = task.name; name = p.name; value = value }) (available task children p.name)

-- no result of a task of another name is found

not_this : (named : Named) (task : PipelineTask) (p : Param) (o : Option Value) (rest : List Given) → bytes_eq task.name named.0 ≡ false → find (is_named named) rest ≡ None
    → find (is_named named) (cons_option (option_map (λ value. record { task = task.name; name = p.name; value = value }) o) rest) ≡ None
not_this named task p None rest differs none = none
not_this named task p (Some value) rest differs none = rw differs none

none_of_other : (named : Named) (task : PipelineTask) (children : List Child) (ps : List Param) → bytes_eq task.name named.0 ≡ false
    → find (is_named named) (filter_map (given_of task children) ps) ≡ None
none_of_other named task children [] differs = refl
none_of_other named task children (p ∷ ps) differs =
    not_this named task p (available task children p.name) (filter_map (given_of task children) ps) differs (none_of_other named task children ps differs)

abbrev pub with_children : RunSpec → List Stop → List Child → Facts
with_children spec stops children = record { spec = spec; stops = stops; children = children }

module _ (spec : RunSpec) (was now : List Stop) (cs ds : List Child) where
  abbrev old : Facts
  old = with_children spec was cs

  abbrev new : Facts
  new = with_children spec now ds

  abbrev all : List PipelineTask
  all = all_tasks old

  of_task_same : (e : ℕ × PipelineTask) → children_at ds e.0 ≡ children_at cs e.0 → available_of new e ≡ available_of old e
  of_task_same e same = ap (λ (children : List Child). filter_map (given_of e.1 children) (candidates e.1 (by_index children))) same

  of_other : (named : Named) (e : ℕ × PipelineTask) → bytes_eq e.1.name named.0 ≡ false → find (is_named named) (available_of new e) ≡ find (is_named named) (available_of old e)
  of_other named e differs =
      none_of_other named e.1 (children_at ds e.0) (candidates e.1 (by_index (children_at ds e.0))) differs
      ∙ sym (none_of_other named e.1 (children_at cs e.0) (candidates e.1 (by_index (children_at cs e.0))) differs)

  abbrev SameAt : Named → ℕ × PipelineTask → Type 0
  SameAt named e = e.1.name ≡ named.0 → children_at ds e.0 ≡ children_at cs e.0

  here_same : (named : Named) (e : ℕ × PipelineTask) → SameAt named e → find (is_named named) (available_of new e) ≡ find (is_named named) (available_of old e)
  here_same named e same =
      elim (cases_Bool (bytes_eq e.1.name named.0)) [
        | inl is ↦ ap (find (is_named named)) (of_task_same e (same ((bytes_eq-Decides e.1.name named.0).0 is)))
        | inr differs ↦ of_other named e differs
      ]

  found_same : (named : Named) (es : List (ℕ × PipelineTask)) → AllByRecursion (SameAt named) es
      → find (is_named named) (flat_map (available_of new) es) ≡ find (is_named named) (flat_map (available_of old) es)
  found_same named [] same = refl
  found_same named (e ∷ es) same =
      find-append (is_named named) (available_of new e) (flat_map (available_of new) es)
      ∙ ((λ i. option_or (here_same named e same.0 i) (found_same named es same.1 i))
      ∙ sym (find-append (is_named named) (available_of old e) (flat_map (available_of old) es)))

  -- a result of a name is the same where each task of its name has the same children
  result_same : (named : Named) → ((q : ℕ) (task : PipelineTask) → slice_get all q ≡ Some task → task.name ≡ named.0 → children_at ds q ≡ children_at cs q)
      → result_named named.0 named.1 (available_results new) ≡ result_named named.0 named.1 (available_results old)
  result_same named same =
      ap (option_map (λ (g : Given). g.value))
      (found_same named (enumerate_from 0 all) (each_from (SameAt named) (enumerate_from 0 all) (λ e c is. same e.0 e.1 (enumerated all e c) is)))

  module _ (good : KnowsReadings) (formed : IsWellFormed old) where
    -- each parent of the task has the same children
    abbrev pub SameParents : PipelineTask → Type 0
    SameParents task = (q : ℕ) (parent : PipelineTask) → slice_get spec.tasks q ≡ Some parent → is_parent parent task ≡ true → children_at ds q ≡ children_at cs q

    known : (task : PipelineTask) (name : List ℕ) → Contains all task → Contains (parent_names task) name → is_known spec.tasks name ≡ true
    known task name c named =
        all_at (is_known spec.tasks) (parent_names task) name
        (All-contains (λ (t : PipelineTask). IsTrue (list_all (is_known spec.tasks) (parent_names t))) all task formed.parents_exist c) named

    of_tasks : (q : ℕ) (task : PipelineTask) → slice_get all q ≡ Some task → q < length spec.tasks → slice_get spec.tasks q ≡ Some task
    of_tasks q task is within =
        slice_get_read spec.tasks (length spec.tasks) q task refl within
        (sym (sym (get_or_append_left spec.tasks spec.finally task q within) ∙ get_or_from_slice_get all q task task is))

    pub results_agree : (words words_new : List Pair) (task : PipelineTask) → Contains all task → SameParents task → (named : Named) → Contains (task_results task) named
        → SameResult (env_with new words_new) (env_with old words) named
    results_agree words words_new task c same named refers =
        let name_in : Contains (parent_names task) named.0 = in_parent_names task named refers in
        result_same named
        (λ q parent there is.
        let within : q < length spec.tasks = among_first spec.tasks spec.finally q parent named.0 formed.names_differ (known task named.0 c name_in) there is in
        same q parent (of_tasks q parent there within) (is_parent_named parent task named.0 name_in is))

    text_good : (task : PipelineTask) (text : List ℕ) → Contains all task → Contains (task_texts task) text → bad_offset text ≡ None
    text_good task text c d =
        good text
        (All-contains HasReading (facts_texts old) text formed.readable
        (Contains-append_left _ (params_texts spec.results) text (Contains-append_left (flat_map task_texts all) _ text (flat_in task_texts all task text c d))))

    -- so the task is the same in both
    pub tasks_agree : (words : List Pair) (task : PipelineTask) → Contains all task → SameParents task → SameTask (env_with new words) (env_with old words) task
    tasks_agree words task c same =
        task_same (env_with new words) (env_with old words) task
        (each_from (SameText (env_with new words) (env_with old words)) (task_texts task)
        (λ text d. text_agrees (env_with new words) (env_with old words) refl refl text (text_good task text c d)
        (λ named e. results_agree words words task c same named (flat_in text_results (task_texts task) text named d e))))
