-- Where all of `tasks` have the same children and labels, the line of a task of `finally` is the same.
use Rattle.std.proofs.Common.{◌≡◌, ℕ, ◌-◌, ◌<◌, ◌≤◌, Bool, ◌||◌, not, List, [], ◌∷◌, ◌++◌, length, take, Option, Some, None, refl, sym, ap, ◌∙◌, subst}
use Rattle.std.specs.Prelude.{Contains, slice_get, if◌then◌else◌, option_map, filter_map, codes, is_none, unwrap_or}
use Rattle.std.specs.List.{AllByRecursion, list_all, list_any, enumerate_from, cons_option}
use Rattle.std.specs.Option.{option_map_or}
use Rattle.std.proofs.lemmas.List.Elements.{Contains-append_right}
use Rattle.std.proofs.lemmas.Option.{slice_get_past, slice_get_within}
use Rattle.tk_types.specs.declared.value.Pair.{Pair}
use Rattle.tk_types.specs.declared.task.PipelineTask.{PipelineTask}
use Rattle.tk_types.specs.declared.run.Child.{Child}
use Rattle.tk_types.specs.declared.run.Facts.{Facts}
use Rattle.tk_types.specs.declared.run.RunSpec.{RunSpec}
use Rattle.tk_types.specs.declared.run.Stop.{Stop}
use Rattle.tk_types.specs.declared.verdict.SkipReason.TheVariants.{Missing}
use Rattle.tk_types.specs.declared.verdict.Verdict.{Verdict}
use Rattle.tk_types.specs.declared.verdict.Verdict.TheVariants.{Ready, Waits}
use Rattle.tk_types.specs.Lists.{first_row}
use Rattle.tk_graph.specs.Results.{task_results}
use Rattle.tk_bind.specs.declared.env.Env.{Env}
use Rattle.tk_bind.specs.Substitute.{result_named}
use Rattle.tk_verdict.specs.Facts.{all_tasks, children_at, has_ended, is_good, first_late_stop}
use Rattle.tk_verdict.specs.Labels.{verdict_line, task_line, finally_line, label_by, labelled_parents}
use Rattle.tk_verdict.specs.Rows.{finally_row, lacks_any_result}
use Rattle.tk_verdict.specs.Verdict.{label_at, is_done, is_skipped, is_broken_label, is_stopped_label}
use Rattle.tk_verdict.specs.WellFormed.{IsWellFormed}
use Rattle.tk_early.specs.Words.{task_words}
use Rattle.tk_verdict.specs.Words.{env_with, finally_env, status_words, status_word, task_status, has_bad_child}
use Rattle.tk_verdict.proofs.Elements.{each_from, enumerated}
use Rattle.tk_verdict.proofs.GoodStays.{task_in}
use Rattle.tk_verdict.proofs.SameResults.{KnowsReadings, with_children, tasks_agree, results_agree}
use Rattle.tk_verdict.proofs.SameValues.{SameTask}
use Rattle.tk_labels.proofs.SameFaces.{own_same}

any_enumerated : {X : Type 0} (f g : ℕ × X → Bool) (es : List (ℕ × X)) → AllByRecursion (λ e. f e ≡ g e) es → list_any f es ≡ list_any g es
any_enumerated f g [] same = refl
any_enumerated f g (e ∷ es) same = λ i. same.0 i || any_enumerated f g es same.1 i

some_enumerated : {X Y : Type 0} (f g : ℕ × X → Option Y) (es : List (ℕ × X)) → AllByRecursion (λ e. f e ≡ g e) es → filter_map f es ≡ filter_map g es
some_enumerated f g [] same = refl
some_enumerated f g (e ∷ es) same = λ i. cons_option (same.0 i) (some_enumerated f g es same.1 i)

missing_same : (a b : Env) (rs : List (List ℕ × List ℕ)) → AllByRecursion (λ r. result_named r.0 r.1 a.results ≡ result_named r.0 r.1 b.results) rs
    → list_any (λ (r : List ℕ × List ℕ). is_none (result_named r.0 r.1 a.results)) rs ≡ list_any (λ (r : List ℕ × List ℕ). is_none (result_named r.0 r.1 b.results)) rs
missing_same a b [] same = refl
missing_same a b (r ∷ rs) same = λ i. is_none (same.0 i) || missing_same a b rs same.1 i

-- the status of all of `tasks`
abbrev run_by : Bool → List Verdict → List ℕ
run_by bad labels =
    unwrap_or
    (first_row
    ((bad, codes "Failed")
    ∷ (list_any (λ label. is_broken_label label || is_stopped_label label) labels, codes "None")
    ∷ (list_any is_skipped labels, codes "Completed")
    ∷ []))
    (codes "Succeeded")

-- the line at a place of `finally`
pub line_of_final : (facts : Facts) (labels : List Verdict) (place : ℕ) (task : PipelineTask) → length facts.spec.tasks ≤ place → slice_get facts.spec.finally (place - length facts.spec.tasks) ≡ Some task
    → verdict_line facts labels place ≡ finally_line facts (take (length facts.spec.tasks) labels) place task
line_of_final facts labels place task past is =
    ap (λ (o : Option PipelineTask). option_map_or (task_line facts (labelled_parents facts labels place) place) o
    (option_map_or (finally_line facts (take (length facts.spec.tasks) labels) place) (slice_get facts.spec.finally (place - length facts.spec.tasks)) Waits)) (slice_get_past facts.spec.tasks place past)
    ∙ ap (λ (o : Option PipelineTask). option_map_or (finally_line facts (take (length facts.spec.tasks) labels) place) o Waits) is

module _ (spec : RunSpec) (was now : List Stop) (cs ds : List Child) (knows : KnowsReadings) (formed : IsWellFormed (with_children spec was cs))
    (same : (q : ℕ) → q < length spec.tasks → children_at ds q ≡ children_at cs q) (labels : List Verdict) where
  abbrev old : Facts
  old = with_children spec was cs

  abbrev new : Facts
  new = with_children spec now ds

  enumerated_same : (e : ℕ × PipelineTask) → Contains (enumerate_from 0 spec.tasks) e → children_at ds e.0 ≡ children_at cs e.0
  enumerated_same e c = same e.0 (slice_get_within spec.tasks e.0 e.1 (enumerated spec.tasks e c))

  words_same : status_words new labels ≡ status_words old labels
  words_same =
      let es = enumerate_from 0 spec.tasks in
      let bad : list_any (has_bad_child new) es ≡ list_any (has_bad_child old) es
      = any_enumerated (has_bad_child new) (has_bad_child old) es (each_from (λ e. has_bad_child new e ≡ has_bad_child old e) es
      (λ e c. ap (list_any (has_ended (λ outcome. not (is_good e.1 outcome)))) (enumerated_same e c))) in
      let each : filter_map (status_word new labels) es ≡ filter_map (status_word old labels) es
      = some_enumerated (status_word new labels) (status_word old labels) es (each_from (λ e. status_word new labels e ≡ status_word old labels e) es
      (λ e c. ap (λ (children : List Child). option_map (λ status. record { key = codes "tasks." ++ e.1.name ++ codes ".status"; value = status }) (task_status children (label_at labels e.0))) (enumerated_same e c))) in
      λ i. record { key = codes "tasks.status"; value = run_by (bad i) labels } ∷ each i

  agrees : (task : PipelineTask) → Contains (all_tasks old) task → SameTask (finally_env new labels task) (finally_env old labels task) task
  agrees task c =
      subst (λ (words : List Pair). SameTask (env_with new (task_words spec task ++ words)) (finally_env old labels task) task) (sym words_same)
      (tasks_agree spec was now cs ds knows formed (task_words spec task ++ status_words old labels) task c
      (λ q parent there named. same q (slice_get_within spec.tasks q parent there)))

  row_same : (place : ℕ) (task : PipelineTask) → Contains (all_tasks old) task → finally_row new (finally_env new labels task) place task ≡ finally_row old (finally_env old labels task) place task
  row_same place task c =
      let env_new = finally_env new labels task in
      let env_old = finally_env old labels task in
      let lacks : lacks_any_result env_new task ≡ lacks_any_result env_old task
      = missing_same env_new env_old (task_results task) (each_from (λ r. result_named r.0 r.1 env_new.results ≡ result_named r.0 r.1 env_old.results) (task_results task)
      (λ r d. results_agree spec was now cs ds knows formed env_old.words env_new.words task c (λ q parent there named. same q (slice_get_within spec.tasks q parent there)) r d)) in
      let own = own_same spec was now cs ds knows formed env_new env_old place task (agrees task c) in
      λ i. first_row ((lacks i, Missing) ∷ own i)

  pub final_line_same : (place : ℕ) (task : PipelineTask) → slice_get spec.finally (place - length spec.tasks) ≡ Some task
      → children_at ds place ≡ children_at cs place → first_late_stop new ≡ first_late_stop old → finally_line new labels place task ≡ finally_line old labels place task
  final_line_same place task is children stop =
      let c = Contains-append_right spec.tasks spec.finally task (task_in spec.finally (place - length spec.tasks) task is) in
      let combinations = (agrees task c).combinations in
      let row = row_same place task c in
      λ i. if list_all is_done labels then label_by (children i) (combinations i) (row i) (stop i) Ready else label_by (children i) (combinations i) None None Waits
