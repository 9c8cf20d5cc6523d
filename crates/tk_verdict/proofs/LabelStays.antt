-- The label of a settled task stays, and what the rules give a task of `finally`.
use Rattle.std.proofs.Common.{◌≡◌, ◌≢◌, ℕ, zero, suc, ◌-◌, ◌<◌, ◌≤◌, Bool, true, false, ◌&&◌, ◌||◌, not, List, [], ◌∷◌, ◌++◌, map, length, get_or, Option, Some, refl, sym, ap, ◌∙◌, subst, inl, inr, arith}
use Rattle.std.specs.Prelude.{Contains, if◌then◌else◌, is_none, slice_get, slice_index, option_map, filter_map, codes, unwrap_or}
use Rattle.std.specs.List.{list_any, list_all, enumerate_from, AllByRecursion, cons_option}
use Rattle.std.specs.Option.{option_map_or}
use Rattle.std.proofs.lemmas.List.{ext_get_or, get_or-take, length-take-le}
use Rattle.std.proofs.lemmas.List.Elements.{Contains-append_right}
use Rattle.std.proofs.lemmas.Option.{slice_get_cases, slice_get_within}
use Rattle.tk_types.specs.declared.value.Pair.{Pair}
use Rattle.tk_types.specs.declared.value.Param.{Param}
use Rattle.tk_types.specs.declared.task.PipelineTask.{PipelineTask}
use Rattle.tk_types.specs.declared.run.Facts.{Facts}
use Rattle.tk_types.specs.declared.run.Child.{Child}
use Rattle.tk_types.specs.declared.run.RunSpec.{RunSpec}
use Rattle.tk_types.specs.declared.run.Stop.{Stop}
use Rattle.tk_types.specs.declared.verdict.Binding.{Binding}
use Rattle.tk_types.specs.declared.verdict.SkipReason.TheVariants.{Parent, Missing}
use Rattle.tk_types.specs.declared.verdict.Verdict.{Verdict}
use Rattle.tk_types.specs.declared.verdict.Verdict.TheVariants.{Ready, Waits}
use Rattle.tk_types.specs.Lists.{first_row}
use Rattle.tk_graph.specs.Parents.{parents, IsAncestor}
use Rattle.tk_graph.specs.Parents.IsAncestor.{is_its_parent, is_above}
use Rattle.tk_graph.specs.Results.{task_results}
use Rattle.tk_bind.specs.declared.env.Env.{Env}
use Rattle.tk_bind.specs.Substitute.{result_named}
use Rattle.tk_verdict.specs.Bindings.{combinations_in}
use Rattle.tk_verdict.specs.Facts.{all_tasks, children_at, children_of, is_running, all_ended, has_ended, is_good, first_stop, first_late_stop}
use Rattle.tk_verdict.specs.Gives.{label_of, first_labels, GivesFinal}
use Rattle.tk_verdict.specs.Labels.{labels_of, labelled_parents, label_by, finally_line}
use Rattle.tk_verdict.specs.Rows.{is_good_parent, lacks_result, task_row, lacks_any_result, finally_row}
use Rattle.tk_verdict.specs.Verdict.{label_at, is_done, is_skipped, is_skipped_by_when, is_broken_label, is_stopped_label, blocks}
use Rattle.tk_verdict.specs.WellFormed.{IsWellFormed}
use Rattle.tk_early.specs.Words.{task_words}
use Rattle.tk_verdict.specs.Words.{task_env, env_with, finally_env, status_words, status_word, task_status, has_bad_child}
use Rattle.tk_verdict.proofs.Elements.{same_default, all_at, map_same, each_from, enumerated}
use Rattle.tk_verdict.proofs.GoodStays.{own_same, task_agrees, task_in}
use Rattle.tk_verdict.proofs.Lines.{next_by, done_stays, done_rests, labels_length, task_label, final_label}
use Rattle.tk_verdict.proofs.Locality.{parents_within}
use Rattle.tk_verdict.proofs.SameResults.{KnowsReadings, with_children, tasks_agree, results_agree}
use Rattle.tk_verdict.proofs.SameValues.{SameTask}

-- an ancestor of a parent is an ancestor
pub above_parent : (tasks : List PipelineTask) (t q p : ℕ) → IsAncestor tasks t q → Contains (parents tasks p) q → IsAncestor tasks t p
above_parent tasks t q p (is_its_parent c) d = is_above c (is_its_parent d)
above_parent tasks t q p (is_above c rest) d = is_above c (above_parent tasks _ q p rest d)

ancestor_within : (tasks : List PipelineTask) (t p : ℕ) → IsAncestor tasks t p → t < length tasks
ancestor_within tasks t p (is_its_parent {parent} {task} c) = parents_within tasks task parent c
ancestor_within tasks t p (is_above {parent} {above} {task} c rest) = parents_within tasks above parent c

done_not_ready : (v : Verdict) → is_done v ≡ true → v ≢ Ready
done_not_ready v done is = let now : is_done v ≡ false = ap is_done is in cc

-- a test of places and elements that agrees on each
any_enumerated : {X : Type 0} (f g : ℕ × X → Bool) (es : List (ℕ × X)) → AllByRecursion (λ e. f e ≡ g e) es → list_any f es ≡ list_any g es
any_enumerated f g [] same = refl
any_enumerated f g (e ∷ es) same = λ i. same.0 i || any_enumerated f g es same.1 i

some_enumerated : {X Y : Type 0} (f g : ℕ × X → Option Y) (es : List (ℕ × X)) → AllByRecursion (λ e. f e ≡ g e) es → filter_map f es ≡ filter_map g es
some_enumerated f g [] same = refl
some_enumerated f g (e ∷ es) same = λ i. cons_option (same.0 i) (some_enumerated f g es same.1 i)

-- the status of all of `tasks`
abbrev run_by : Bool → List Verdict → List ℕ
run_by bad labels =
    unwrap_or
    (first_row
    ((bad, codes "Failed")
    ∷ (list_any (λ label. is_broken_label label || is_stopped_label label) labels, codes "None")
    ∷ (list_any is_skipped labels, codes "Completed")
    ∷ []))
    (codes "Succeeded")

missing_same : (a b : Env) (rs : List (List ℕ × List ℕ)) → AllByRecursion (λ r. result_named r.0 r.1 a.results ≡ result_named r.0 r.1 b.results) rs
    → list_any (λ (r : List ℕ × List ℕ). is_none (result_named r.0 r.1 a.results)) rs ≡ list_any (λ (r : List ℕ × List ℕ). is_none (result_named r.0 r.1 b.results)) rs
missing_same a b [] same = refl
missing_same a b (r ∷ rs) same = λ i. is_none (same.0 i) || missing_same a b rs same.1 i

module _ (spec : RunSpec) (was now : List Stop) (cs ds : List Child) (knows : KnowsReadings) (formed : IsWellFormed (with_children spec was cs))
    (rest : (p : ℕ) → label_of (with_children spec was cs) p ≢ Ready → list_any is_running (children_at cs p) ≡ false → children_at ds p ≡ children_at cs p) where
  abbrev old : Facts
  old = with_children spec was cs

  abbrev new : Facts
  new = with_children spec now ds

  abbrev count : ℕ
  count = length spec.tasks

  abbrev parents_of : Facts → ℕ → List (ℕ × Verdict)
  parents_of facts place = labelled_parents facts (labels_of facts) place

  -- a task that is done has the same children
  pub done_same : (p : ℕ) → is_done (label_of old p) ≡ true → children_at ds p ≡ children_at cs p
  done_same p done = rest p (done_not_ready (label_of old p) done) (done_rests old p done)

  pub record SameLabel (q : ℕ) : Type 0 where
    pub children : children_at ds q ≡ children_at cs q
    pub label : label_of new q ≡ label_of old q

  -- a row reads nothing but the parents
  row_same : (place : ℕ) (task : PipelineTask) → slice_get spec.tasks place ≡ Some task → ((q : ℕ) → Contains (parents spec.tasks place) q → SameLabel q)
      → (task_row new (parents_of new place) (task_env new task) place task ≡ task_row old (parents_of old place) (task_env old task) place task)
      × (combinations_in (task_env new task) task ≡ combinations_in (task_env old task) task)
  row_same place task is same =
      let ps = parents spec.tasks place in
      let pair_new : ℕ → ℕ × Verdict = λ q. (q, label_of new q) in
      let pair_old : ℕ → ℕ × Verdict = λ q. (q, label_of old q) in
      let labelled : parents_of new place ≡ parents_of old place = map_same pair_new pair_old ps (each_from (λ q. pair_new q ≡ pair_old q) ps (λ q c. λ i. (q, (same q c).label i))) in
      let blocked : list_any (λ (p : ℕ × Verdict). blocks p.1) (parents_of new place) ≡ list_any (λ (p : ℕ × Verdict). blocks p.1) (parents_of old place) = ap (list_any (λ (p : ℕ × Verdict). blocks p.1)) labelled in
      let all : list_all (is_good_parent new) (parents_of new place) ≡ list_all (is_good_parent old) (parents_of old place)
      = every_same (is_good_parent new) (is_good_parent old) pair_new pair_old ps
      (λ q c. λ i. option_map_or (λ (t : PipelineTask). all_ended (is_good t) ((same q c).children i)) (slice_get (all_tasks old) q) false || is_skipped_by_when ((same q c).label i)) in
      let lacks : lacks_result new (parents_of new place) task ≡ lacks_result old (parents_of old place) task = ap (λ (parents : List (ℕ × Verdict)). lacks_result old parents task) labelled in
      let agrees = task_agrees spec was now cs ds knows formed rest place task is (λ q c. (same q c).children) in
      let own = own_same spec was now cs ds knows formed rest (task_env new task) (task_env old task) place task agrees in
      (λ i. first_row ((blocked i, Parent) ∷ (if all i then (lacks i, Missing) ∷ own i else [])), agrees.combinations)
    where
      every_same : {X Y : Type 0} (f g : Y → Bool) (p q : X → Y) (xs : List X) → ((x : X) → Contains xs x → f (p x) ≡ g (q x)) → list_all f (map p xs) ≡ list_all g (map q xs)
      every_same f g p q [] same = refl
      every_same f g p q (x ∷ xs) same = λ i. same x (0, omega arith, refl) i && every_same f g p q xs (λ y c. same y (suc c.0, omega (arith, c.1), c.2)) i

  module _ (first_stays : (s : Stop) → first_stop old ≡ Some s → first_stop new ≡ Some s) where
    abbrev rank : ℕ → ℕ
    rank p = slice_index formed.acyclic.0 p

    task_stays : (p : ℕ) (task : PipelineTask) → slice_get spec.tasks p ≡ Some task → is_done (label_of old p) ≡ true → ((q : ℕ) → Contains (parents spec.tasks p) q → SameLabel q) → SameLabel p
    task_stays p task is done same =
        let line_old = task_label old formed.acyclic p task is in
        let line_new = task_label new formed.acyclic p task is in
        let children : children_at ds p ≡ children_at cs p = done_same p done in
        let rows = row_same p task is same in
        let good_new : Bool = list_all (is_good_parent new) (parents_of new p) in
        let kept = done_stays (children_at cs p) (combinations_in (task_env old task) task) (task_row old (parents_of old p) (task_env old task) p task) (first_stop old) (first_stop new)
        (list_all (is_good_parent old) (parents_of old p)) good_new (sym (ap is_done line_old) ∙ done) first_stays in
        record {
          children = children;
          label = line_new ∙ ((λ i. label_by (children i) (rows.1 i) (rows.0 i) (first_stop new) (next_by good_new)) ∙ (kept ∙ sym line_old));
        }

    -- the task and all its ancestors are done
    pub record AllDone (p : ℕ) : Type 0 where
      pub within : p < count
      pub itself : is_done (label_of old p) ≡ true
      pub above : (t : ℕ) → IsAncestor spec.tasks t p → is_done (label_of old t) ≡ true

    parent_done : (p q : ℕ) → AllDone p → Contains (parents spec.tasks p) q → AllDone q
    parent_done p q all c =
        record {
          within = parents_within spec.tasks p q c;
          itself = all.above q (is_its_parent c);
          above = λ t a. all.above t (above_parent spec.tasks t q p a c);
        }

    stays_by : (k p : ℕ) → rank p < k → AllDone p → SameLabel p
    stays_by zero p low all = absurd (omega arith)
    stays_by (suc k) p low all =
        elim (slice_get_cases spec.tasks p).1 [
          | inl found ↦ task_stays p found.0 found.2 all.itself
              (λ q c. let lower : rank q < rank p = formed.acyclic.1.rising q p c in stays_by k q (omega arith) (parent_done p q all c))
          | inr past ↦ let within = all.within in absurd (omega arith)
        ]

    pub done_label_stays : (p : ℕ) → AllDone p → SameLabel p
    done_label_stays p all = stays_by (suc (rank p)) p (omega arith) all

    -- where all of `tasks` are done

    module _ (finished : list_all is_done (first_labels old) ≡ true) where
      first_at : (facts : Facts) (q : ℕ) → q < length facts.spec.tasks → get_or (first_labels facts) q Waits ≡ label_of facts q
      first_at facts q lt = get_or-take (length facts.spec.tasks) (labels_of facts) q Waits lt

      first_length : (facts : Facts) → length (first_labels facts) ≡ length facts.spec.tasks
      first_length facts = length-take-le (length facts.spec.tasks) (labels_of facts) (rw (labels_length facts) (omega arith))

      done_at : (q : ℕ) → q < count → is_done (label_of old q) ≡ true
      done_at q lt =
          let within : q < length (first_labels old) = rw (first_length old) lt in
          all_at is_done (first_labels old) (label_of old q) finished
          (q, within, same_default (first_labels old) q (label_of old q) Waits within ∙ first_at old q lt)

      same_at : (q : ℕ) → q < count → SameLabel q
      same_at q lt = done_label_stays q (record { within = lt; itself = done_at q lt; above = λ t a. done_at t (ancestor_within spec.tasks t q a) })

      pub first_same : first_labels new ≡ first_labels old
      first_same =
          ext_get_or Waits (first_labels new) (first_labels old) (first_length new ∙ sym (first_length old))
          (λ q lt. let within : q < count = subst (λ n. q < n) (first_length new) lt in first_at new q within ∙ ((same_at q within).label ∙ sym (first_at old q within)))

      enumerated_same : (e : ℕ × PipelineTask) → Contains (enumerate_from 0 spec.tasks) e → children_at ds e.0 ≡ children_at cs e.0
      enumerated_same e c = (same_at e.0 (slice_get_within spec.tasks e.0 e.1 (enumerated spec.tasks e c))).children

      words_same : status_words new (first_labels new) ≡ status_words old (first_labels old)
      words_same =
          let es = enumerate_from 0 spec.tasks in
          let bad : list_any (has_bad_child new) es ≡ list_any (has_bad_child old) es
          = any_enumerated (has_bad_child new) (has_bad_child old) es (each_from (λ e. has_bad_child new e ≡ has_bad_child old e) es
          (λ e c. ap (list_any (has_ended (λ outcome. not (is_good e.1 outcome)))) (enumerated_same e c))) in
          let each : filter_map (status_word new (first_labels new)) es ≡ filter_map (status_word old (first_labels old)) es
          = some_enumerated (status_word new (first_labels new)) (status_word old (first_labels old)) es (each_from (λ e. status_word new (first_labels new) e ≡ status_word old (first_labels old) e) es
          (λ e c. λ i. option_map (λ status. record { key = codes "tasks." ++ e.1.name ++ codes ".status"; value = status }) (task_status (enumerated_same e c i) (label_at (first_same i) e.0)))) in
          λ i. record { key = codes "tasks.status"; value = run_by (bad i) (first_same i) } ∷ each i

      -- so what a task of `finally` sees is the same

      pub final_agrees : (task : PipelineTask) → Contains (all_tasks old) task → SameTask (finally_env new (first_labels new) task) (finally_env old (first_labels old) task) task
      final_agrees task c =
          subst (λ (words : List Pair). SameTask (env_with new (task_words spec task ++ words)) (finally_env old (first_labels old) task) task) (sym words_same)
          (tasks_agree spec was now cs ds knows formed (task_words spec task ++ status_words old (first_labels old)) task c
          (λ q parent there named. (same_at q (slice_get_within spec.tasks q parent there)).children))

      pub final_row_same : (place : ℕ) (task : PipelineTask) → Contains (all_tasks old) task
          → finally_row new (finally_env new (first_labels new) task) place task ≡ finally_row old (finally_env old (first_labels old) task) place task
      final_row_same place task c =
          let env_new = finally_env new (first_labels new) task in
          let env_old = finally_env old (first_labels old) task in
          let lacks : lacks_any_result env_new task ≡ lacks_any_result env_old task
          = missing_same env_new env_old (task_results task) (each_from (λ r. result_named r.0 r.1 env_new.results ≡ result_named r.0 r.1 env_old.results) (task_results task)
          (λ r d. results_agree spec was now cs ds knows formed env_old.words env_new.words task c (λ q parent there named. (same_at q (slice_get_within spec.tasks q parent there)).children) r d)) in
          let own = own_same spec was now cs ds knows formed rest env_new env_old place task (final_agrees task c) in
          λ i. first_row ((lacks i, Missing) ∷ own i)

      finished_new : list_all is_done (first_labels new) ≡ true
      finished_new = ap (list_all is_done) first_same ∙ finished

      final_in : (place : ℕ) (task : PipelineTask) → slice_get spec.finally (place - count) ≡ Some task → Contains (all_tasks old) task
      final_in place task is = Contains-append_right spec.tasks spec.finally task (task_in spec.finally (place - count) task is)

      pub gives_final_stays : (place : ℕ) (task : PipelineTask) (bindings : List Binding) → GivesFinal old place task bindings → GivesFinal new place task bindings
      gives_final_stays place task bindings gives =
          let c = final_in place task gives.of_finally in
          record {
            past = gives.past;
            of_finally = gives.of_finally;
            done = finished_new;
            no_row = final_row_same place task c ∙ gives.no_row;
            bound = ap (option_map (map (λ (params : List Param). record { params = params }))) (final_agrees task c).combinations ∙ gives.bound;
          }

      -- the label of a task of `finally` where all of `tasks` are done
      line_of : (facts : Facts) → list_all is_done (first_labels facts) ≡ true → (place : ℕ) (task : PipelineTask)
          → finally_line facts (first_labels facts) place task
          ≡ label_by (children_of facts place) (combinations_in (finally_env facts (first_labels facts) task) task) (finally_row facts (finally_env facts (first_labels facts) task) place task) (first_late_stop facts) (next_by true)
      line_of facts done place task = rw done refl

      pub final_label_stays : ((s : Stop) → first_late_stop old ≡ Some s → first_late_stop new ≡ Some s) → (place : ℕ) (task : PipelineTask) → count ≤ place → slice_get spec.finally (place - count) ≡ Some task
          → is_done (label_of old place) ≡ true → label_of new place ≡ label_of old place
      final_label_stays late_stays place task past is done =
          let c = final_in place task is in
          let line_old = final_label old formed.acyclic place task past is ∙ line_of old finished place task in
          let line_new = final_label new formed.acyclic place task past is ∙ line_of new finished_new place task in
          let children : children_at ds place ≡ children_at cs place = done_same place done in
          let row = final_row_same place task c in
          let combinations = (final_agrees task c).combinations in
          let kept = done_stays (children_at cs place) (combinations_in (finally_env old (first_labels old) task) task) (finally_row old (finally_env old (first_labels old) task) place task)
          (first_late_stop old) (first_late_stop new) true true (sym (ap is_done line_old) ∙ done) late_stays in
          line_new ∙ ((λ i. label_by (children i) (combinations i) (row i) (first_late_stop new) (next_by true)) ∙ (kept ∙ sym line_old))

      pub ready_final_stays : (place : ℕ) (task : PipelineTask) → count ≤ place → slice_get spec.finally (place - count) ≡ Some task → children_at ds place ≡ children_at cs place → first_late_stop new ≡ first_late_stop old
          → label_of old place ≡ Ready → label_of new place ≡ Ready
      ready_final_stays place task past is children stop ready =
          let c = final_in place task is in
          let line_old = final_label old formed.acyclic place task past is ∙ line_of old finished place task in
          let line_new = final_label new formed.acyclic place task past is ∙ line_of new finished_new place task in
          let row = final_row_same place task c in
          let combinations = (final_agrees task c).combinations in
          line_new ∙ ((λ i. label_by (children i) (combinations i) (row i) (stop i) (next_by true)) ∙ (sym line_old ∙ ready))
