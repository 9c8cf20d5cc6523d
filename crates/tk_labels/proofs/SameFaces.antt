-- Where the parents of a task show the same, its line is the same.
use Rattle.std.proofs.Common.{◌≡◌, ℕ, zero, suc, ◌<◌, Bool, true, false, ◌&&◌, ◌||◌, not, List, [], ◌∷◌, map, length, Option, Some, None, refl, sym, ap, ◌∙◌, inl, inr, arith}
use Rattle.std.specs.Prelude.{Contains, IsTrue, ◌⊎◌, if◌then◌else◌, flat_map, filter_map, find, is_none, slice_get, slice_index, bytes_eq, option_map}
use Rattle.std.specs.List.{AllByRecursion, enumerate_from, cons_option, list_all, list_any}
use Rattle.std.specs.Option.{option_or, option_map_or}
use Rattle.std.proofs.lemmas.Bool.{cases_Bool, and_parts, or_parts}
use Rattle.std.proofs.lemmas.List.Elements.{Contains-append_left, All-contains}
use Rattle.std.proofs.lemmas.List.Folds.{find-append}
use Rattle.std.proofs.lemmas.List.{get_or_append_left}
use Rattle.std.proofs.lemmas.Option.{slice_get_read, slice_get_cases, get_or_from_slice_get}
use Rattle.std.proofs.lemmas.Slice.Eq.{bytes_eq-Decides}
use Rattle.tk_types.specs.declared.value.Pair.{Pair}
use Rattle.tk_types.specs.declared.value.Param.{Param}
use Rattle.tk_types.specs.declared.value.Value.{Value}
use Rattle.tk_types.specs.declared.task.Matrix.{Matrix}
use Rattle.tk_types.specs.declared.task.PipelineTask.{PipelineTask}
use Rattle.tk_types.specs.declared.run.Facts.{Facts}
use Rattle.tk_types.specs.declared.run.Child.{Child}
use Rattle.tk_types.specs.declared.run.RunSpec.{RunSpec}
use Rattle.tk_types.specs.declared.run.Outcome.{Outcome}
use Rattle.tk_types.specs.declared.run.Stop.{Stop}
use Rattle.tk_types.specs.declared.verdict.SkipReason.{SkipReason}
use Rattle.tk_types.specs.declared.verdict.SkipReason.TheVariants.{Parent, Missing, Broken, When, EmptyMatrix}
use Rattle.tk_types.specs.declared.verdict.Verdict.{Verdict}
use Rattle.tk_types.specs.declared.verdict.Verdict.TheVariants.{Runs}
use Rattle.tk_types.specs.Lists.{is_empty, first_row}
use Rattle.tk_vars.specs.Offset.{bad_offset}
use Rattle.tk_vars.specs.Reading.{HasReading}
use Rattle.tk_graph.specs.Parents.{parents, parent_names, is_parent, IsAcyclic}
use Rattle.tk_graph.specs.Results.{task_texts, text_results, task_results, params_texts}
use Rattle.tk_graph.specs.Unknown.{is_known}
use Rattle.tk_guard.specs.When.{all_hold}
use Rattle.tk_matrix.specs.Combinations.{has_empty_list}
use Rattle.tk_bind.specs.declared.env.Env.{Env}
use Rattle.tk_bind.specs.declared.env.Given.{Given}
use Rattle.tk_bind.specs.Substitute.{result_named}
use Rattle.tk_verdict.specs.Available.{available, candidates, by_index, available_of, available_results}
use Rattle.tk_verdict.specs.Bindings.{fits_at, combinations_in}
use Rattle.tk_verdict.specs.Facts.{all_tasks, children_at, children_of, all_ended, has_ended, is_good, is_running, first_stop}
use Rattle.tk_verdict.specs.Gives.{label_of}
use Rattle.tk_verdict.specs.Labels.{labels_of, labelled_parents, label_by, task_line}
use Rattle.tk_verdict.specs.Own.{own_in}
use Rattle.tk_verdict.specs.Rows.{is_good_parent, own_rows, refers_to, lacks_result, task_row}
use Rattle.tk_verdict.specs.Verdict.{label_at, is_skipped, is_skipped_by_when, blocks}
use Rattle.tk_verdict.specs.WellFormed.{IsWellFormed, facts_texts}
use Rattle.tk_early.specs.Words.{task_words}
use Rattle.tk_verdict.specs.Words.{env_with, task_env}
use Rattle.tk_verdict.proofs.Elements.{each_from, enumerated, all_at, any_same, map_in, front_get}
use Rattle.tk_verdict.proofs.GoodStays.{task_in}
use Rattle.tk_verdict.proofs.Lines.{next_by, task_label}
use Rattle.tk_verdict.proofs.Locality.{parents_within}
use Rattle.tk_verdict.proofs.NamedParents.{flat_in, in_parent_names, is_parent_named, among_first, parent_in}
use Rattle.tk_verdict.proofs.Resting.{all_ended_rests}
use Rattle.tk_verdict.proofs.SameResults.{KnowsReadings, with_children}
use Rattle.tk_verdict.proofs.SameValues.{SameTask, SameText, SameResult, task_same, text_agrees}
use Rattle.tk_labels.specs.Local.{ShowsSame, RunsInBoth}

abbrev pub Named : Type 0
Named = List ℕ × List ℕ

-- the test by which a result is found
abbrev pub is_named : Named → Given → Bool
is_named named g = bytes_eq g.task named.0 && bytes_eq g.name named.1

abbrev given_of : PipelineTask → List Child → Param → Option Given
given_of task children p = option_map (λ value. record { task = task.name; name = p.name; value = value }) (available task children p.name)

-- no result of a task of another name is found

not_this : (named : Named) (task : PipelineTask) (p : Param) (o : Option Value) (rest : List Given) → bytes_eq task.name named.0 ≡ false → find (is_named named) rest ≡ None
    → find (is_named named) (cons_option (option_map (λ value. record { task = task.name; name = p.name; value = value }) o) rest) ≡ None
not_this named task p None rest differs none = none
not_this named task p (Some value) rest differs none = rw differs none

pub none_of_other : (named : Named) (task : PipelineTask) (children : List Child) (ps : List Param) → bytes_eq task.name named.0 ≡ false
    → find (is_named named) (filter_map (given_of task children) ps) ≡ None
none_of_other named task children [] differs = refl
none_of_other named task children (p ∷ ps) differs =
    not_this named task p (available task children p.name) (filter_map (given_of task children) ps) differs (none_of_other named task children ps differs)

-- a task with a child that runs

pub running_not_good : (test : Outcome → Bool) (children : List Child) → list_any is_running children ≡ true → all_ended test children ≡ false
running_not_good test children runs =
    elim (cases_Bool (all_ended test children)) [
      | inl all ↦ let none = all_ended_rests test children (and_parts (not (is_empty children)) (list_all (has_ended test) children) all).1 in cc
      | inr some ↦ some
    ]

pub none_passes : {X : Type 0} (f : X → Bool) (o : Option X) → ((x : X) → f x ≡ false) → option_map_or f o false ≡ false
none_passes f None none = refl
none_passes f (Some x) none = none x

pub gives_none : (task : PipelineTask) (children : List Child) (ps : List Param) → all_ended (is_good task) children ≡ false → filter_map (given_of task children) ps ≡ []
gives_none task children [] bad = refl
gives_none task children (p ∷ ps) bad = rw bad (gives_none task children ps bad)

pub runs_by : (children : List Child) (combinations : Option (List (List Param))) (row : Option SkipReason) (stop : Option Stop) (next : Verdict)
    → list_any is_running children ≡ true → label_by children combinations row stop next ≡ Runs
runs_by [] combinations row stop next runs = cc
runs_by (c ∷ cs) combinations row stop next runs = rw runs refl

pub runs_at : (facts : Facts) → IsAcyclic facts.spec.tasks → (p : ℕ) (task : PipelineTask) → slice_get facts.spec.tasks p ≡ Some task → list_any is_running (children_of facts p) ≡ true → label_of facts p ≡ Runs
runs_at facts acyclic p task is runs =
    task_label facts acyclic p task is
    ∙ runs_by (children_of facts p) (combinations_in (task_env facts task) task) (task_row facts (labelled_parents facts (labels_of facts) p) (task_env facts task) p task) (first_stop facts)
    (next_by (list_all (is_good_parent facts) (labelled_parents facts (labels_of facts) p))) runs

-- Two states of a run with the same spec.
module _ (spec : RunSpec) (was now : List Stop) (cs ds : List Child) (knows : KnowsReadings) (formed : IsWellFormed (with_children spec was cs)) where
  abbrev old : Facts
  old = with_children spec was cs

  abbrev new : Facts
  new = with_children spec now ds

  abbrev all : List PipelineTask
  all = all_tasks old

  -- results

  of_other : (named : Named) (e : ℕ × PipelineTask) → bytes_eq e.1.name named.0 ≡ false → find (is_named named) (available_of new e) ≡ find (is_named named) (available_of old e)
  of_other named e differs =
      none_of_other named e.1 (children_at ds e.0) (candidates e.1 (by_index (children_at ds e.0))) differs
      ∙ sym (none_of_other named e.1 (children_at cs e.0) (candidates e.1 (by_index (children_at cs e.0))) differs)

  abbrev SameAt : Named → ℕ × PipelineTask → Type 0
  SameAt named e = e.1.name ≡ named.0 → available_of new e ≡ available_of old e

  here_same : (named : Named) (e : ℕ × PipelineTask) → SameAt named e → find (is_named named) (available_of new e) ≡ find (is_named named) (available_of old e)
  here_same named e same =
      elim (cases_Bool (bytes_eq e.1.name named.0)) [
        | inl is ↦ ap (find (is_named named)) (same ((bytes_eq-Decides e.1.name named.0).0 is))
        | inr differs ↦ of_other named e differs
      ]

  found_same : (named : Named) (es : List (ℕ × PipelineTask)) → AllByRecursion (SameAt named) es
      → find (is_named named) (flat_map (available_of new) es) ≡ find (is_named named) (flat_map (available_of old) es)
  found_same named [] same = refl
  found_same named (e ∷ es) same =
      find-append (is_named named) (available_of new e) (flat_map (available_of new) es)
      ∙ ((λ i. option_or (here_same named e same.0 i) (found_same named es same.1 i))
      ∙ sym (find-append (is_named named) (available_of old e) (flat_map (available_of old) es)))

  result_same : (named : Named) → ((q : ℕ) (task : PipelineTask) → slice_get all q ≡ Some task → task.name ≡ named.0 → available_of new (q, task) ≡ available_of old (q, task))
      → result_named named.0 named.1 (available_results new) ≡ result_named named.0 named.1 (available_results old)
  result_same named same =
      ap (option_map (λ (g : Given). g.value))
      (found_same named (enumerate_from 0 all) (each_from (SameAt named) (enumerate_from 0 all) (λ e c is. same e.0 e.1 (enumerated all e c) is)))

  -- each parent of the task gives the same results
  abbrev SameParents : PipelineTask → Type 0
  SameParents task = (q : ℕ) (parent : PipelineTask) → slice_get spec.tasks q ≡ Some parent → is_parent parent task ≡ true → available_of new (q, parent) ≡ available_of old (q, parent)

  known : (task : PipelineTask) (name : List ℕ) → Contains all task → Contains (parent_names task) name → is_known spec.tasks name ≡ true
  known task name c named =
      all_at (is_known spec.tasks) (parent_names task) name
      (All-contains (λ (t : PipelineTask). IsTrue (list_all (is_known spec.tasks) (parent_names t))) all task formed.parents_exist c) named

  of_tasks : (q : ℕ) (task : PipelineTask) → slice_get all q ≡ Some task → q < length spec.tasks → slice_get spec.tasks q ≡ Some task
  of_tasks q task is within =
      slice_get_read spec.tasks (length spec.tasks) q task refl within
      (sym (sym (get_or_append_left spec.tasks spec.finally task q within) ∙ get_or_from_slice_get all q task task is))

  results_agree : (words words_new : List Pair) (task : PipelineTask) → Contains all task → SameParents task → (named : Named) → Contains (task_results task) named
      → SameResult (env_with new words_new) (env_with old words) named
  results_agree words words_new task c same named refers =
      let name_in : Contains (parent_names task) named.0 = in_parent_names task named refers in
      result_same named
      (λ q parent there is.
      let within : q < length spec.tasks = among_first spec.tasks spec.finally q parent named.0 formed.names_differ (known task named.0 c name_in) there is in
      same q parent (of_tasks q parent there within) (is_parent_named parent task named.0 name_in is))

  text_good : (task : PipelineTask) (text : List ℕ) → Contains all task → Contains (task_texts task) text → bad_offset text ≡ None
  text_good task text c d =
      knows text
      (All-contains HasReading (facts_texts old) text formed.readable
      (Contains-append_left _ (params_texts spec.results) text (Contains-append_left (flat_map task_texts all) _ text (flat_in task_texts all task text c d))))

  tasks_agree : (words : List Pair) (task : PipelineTask) → Contains all task → SameParents task → SameTask (env_with new words) (env_with old words) task
  tasks_agree words task c same =
      task_same (env_with new words) (env_with old words) task
      (each_from (SameText (env_with new words) (env_with old words)) (task_texts task)
      (λ text d. text_agrees (env_with new words) (env_with old words) refl refl text (text_good task text c d)
      (λ named e. results_agree words words task c same named (flat_in text_results (task_texts task) text named d e))))

  -- rows

  pub own_same : (a b : Env) (place : ℕ) (task : PipelineTask) → SameTask a b task → own_rows new a place task ≡ own_rows old b place task
  own_same a b place task same =
      λ i.
      (is_none (same.guards i) || not (option_map_or (list_all (fits_at old place)) (same.combinations i) false), Broken)
      ∷ (option_map_or (λ guards. not (all_hold guards)) (same.guards i) false, When)
      ∷ (option_map_or (λ (matrix : Option Matrix). option_map_or (λ (m : Matrix). has_empty_list m.params) matrix false) (same.matrix i) false, EmptyMatrix)
      ∷ []

  abbrev SameParentsFor : List Verdict → List Verdict → ℕ → Type 0
  SameParentsFor xs ys place = (q : ℕ) → Contains (parents spec.tasks place) q → ShowsSame old new xs ys q

  -- what its own texts give, where its parents give the same results
  pub own_texts_same : (place : ℕ) (task : PipelineTask) → slice_get spec.tasks place ≡ Some task
      → ((q : ℕ) (parent : PipelineTask) → Contains (parents spec.tasks place) q → slice_get spec.tasks q ≡ Some parent → available_of new (q, parent) ≡ available_of old (q, parent))
      → own_in (task_env new task) task ≡ own_in (task_env old task) task
  own_texts_same place task is same =
      let agrees : SameTask (task_env new task) (task_env old task) task
      = tasks_agree (task_words spec task) task (Contains-append_left spec.tasks spec.finally task (task_in spec.tasks place task is))
      (λ q parent there named. same q parent (parent_in spec.tasks place q task parent is there named) there) in
      λ i.
      record {
        guards = agrees.guards i;
        combined = record {
          is_empty = option_map_or (λ (matrix : Option Matrix). option_map_or (λ (m : Matrix). has_empty_list m.params) matrix false) (agrees.matrix i) false;
          list = agrees.combinations i;
        };
      }

  -- all that a line has beside the task's children and the stop
  pub record SameLine (xs ys : List Verdict) (place : ℕ) (task : PipelineTask) : Type 0 where
    pub row : task_row new (labelled_parents new ys place) (task_env new task) place task ≡ task_row old (labelled_parents old xs place) (task_env old task) place task
    pub combinations : combinations_in (task_env new task) task ≡ combinations_in (task_env old task) task
    pub good : list_all (is_good_parent new) (labelled_parents new ys place) ≡ list_all (is_good_parent old) (labelled_parents old xs place)

  pub parts_same : (xs ys : List Verdict) (place : ℕ) (task : PipelineTask) → slice_get spec.tasks place ≡ Some task → SameParentsFor xs ys place → SameLine xs ys place task
  parts_same xs ys place task is same =
      let ps = parents spec.tasks place in
      let pair_new : ℕ → ℕ × Verdict = λ q. (q, label_at ys q) in
      let pair_old : ℕ → ℕ × Verdict = λ q. (q, label_at xs q) in
      let blocked : list_any (λ (p : ℕ × Verdict). blocks p.1) (labelled_parents new ys place) ≡ list_any (λ (p : ℕ × Verdict). blocks p.1) (labelled_parents old xs place)
      = any_same (λ (p : ℕ × Verdict). blocks p.1) (λ (p : ℕ × Verdict). blocks p.1) pair_new pair_old ps (λ q c. (same q c).blocks) in
      let every : list_all (is_good_parent new) (labelled_parents new ys place) ≡ list_all (is_good_parent old) (labelled_parents old xs place)
      = every_same (is_good_parent new) (is_good_parent old) pair_new pair_old ps (λ q c. (same q c).good) in
      let agrees : SameTask (task_env new task) (task_env old task) task
      = tasks_agree (task_words spec task) task (Contains-append_left spec.tasks spec.finally task (task_in spec.tasks place task is))
      (λ q parent there named. (same q (parent_in spec.tasks place q task parent is there named)).results parent there) in
      let own = own_same (task_env new task) (task_env old task) place task agrees in
      record {
        row = by_good blocked every own;
        combinations = agrees.combinations;
        good = every;
      }
    where
      every_same : {X Y : Type 0} (f g : Y → Bool) (p q : X → Y) (xs : List X) → ((x : X) → Contains xs x → f (p x) ≡ g (q x)) → list_all f (map p xs) ≡ list_all g (map q xs)
      every_same f g p q [] same = refl
      every_same f g p q (x ∷ xs) same = λ i. same x (0, omega arith, refl) i && every_same f g p q xs (λ y c. same y (suc c.0, omega (arith, c.1), c.2)) i

      by_good : list_any (λ (p : ℕ × Verdict). blocks p.1) (labelled_parents new ys place) ≡ list_any (λ (p : ℕ × Verdict). blocks p.1) (labelled_parents old xs place)
          → list_all (is_good_parent new) (labelled_parents new ys place) ≡ list_all (is_good_parent old) (labelled_parents old xs place)
          → own_rows new (task_env new task) place task ≡ own_rows old (task_env old task) place task
          → task_row new (labelled_parents new ys place) (task_env new task) place task ≡ task_row old (labelled_parents old xs place) (task_env old task) place task
      by_good blocked every own =
          elim (cases_Bool (list_all (is_good_parent old) (labelled_parents old xs place))) [
            | inl good ↦
                let pair_old : ℕ → ℕ × Verdict = λ q. (q, label_at xs q) in
                let lacks : lacks_result new (labelled_parents new ys place) task ≡ lacks_result old (labelled_parents old xs place) task
                = any_same (λ (p : ℕ × Verdict). is_skipped p.1 && refers_to new task p.0) (λ (p : ℕ × Verdict). is_skipped p.1 && refers_to old task p.0) (λ q. (q, label_at ys q)) pair_old (parents spec.tasks place)
                (λ q c. ap (λ b. b && refers_to old task q) ((same q c).skipped (all_at (is_good_parent old) (labelled_parents old xs place) (q, label_at xs q) good (map_in pair_old (parents spec.tasks place) q c)))) in
                λ i. first_row ((blocked i, Parent) ∷ (if every i then (lacks i, Missing) ∷ own i else []))
            | inr some ↦
                ap (λ b. first_row ((list_any (λ (p : ℕ × Verdict). blocks p.1) (labelled_parents new ys place), Parent)
                ∷ (if b then (lacks_result new (labelled_parents new ys place) task, Missing) ∷ own_rows new (task_env new task) place task else []))) (every ∙ some)
                ∙ ((λ i. first_row ((blocked i, Parent) ∷ []))
                ∙ sym (ap (λ b. first_row ((list_any (λ (p : ℕ × Verdict). blocks p.1) (labelled_parents old xs place), Parent)
                ∷ (if b then (lacks_result old (labelled_parents old xs place) task, Missing) ∷ own_rows old (task_env old task) place task else []))) some))
          ]

  -- the line that was judged in the old state, with the new children and stop, is the line in the new one
  pub judged_before : (xs ys : List Verdict) (place : ℕ) (task : PipelineTask) → slice_get spec.tasks place ≡ Some task → SameParentsFor xs ys place
      → task_line new (labelled_parents new ys place) place task
      ≡ label_by (children_of new place) (combinations_in (task_env old task) task) (task_row old (labelled_parents old xs place) (task_env old task) place task) (first_stop new)
      (next_by (list_all (is_good_parent old) (labelled_parents old xs place)))
  judged_before xs ys place task is same =
      let line = parts_same xs ys place task is same in
      (λ i. label_by (children_of new place) (line.combinations i) (line.row i) (first_stop new) (next_by (line.good i)))

  pub line_same : (xs ys : List Verdict) (place : ℕ) (task : PipelineTask) → slice_get spec.tasks place ≡ Some task → children_at ds place ≡ children_at cs place → first_stop new ≡ first_stop old
      → SameParentsFor xs ys place → task_line new (labelled_parents new ys place) place task ≡ task_line old (labelled_parents old xs place) place task
  line_same xs ys place task is children stop same =
      judged_before xs ys place task is same
      ∙ (λ i. label_by (children i) (combinations_in (task_env old task) task) (task_row old (labelled_parents old xs place) (task_env old task) place task) (stop i)
      (next_by (list_all (is_good_parent old) (labelled_parents old xs place))))

  -- what a task shows

  pub results_of_children : (p : ℕ) → children_at ds p ≡ children_at cs p → (task : PipelineTask) → available_of new (p, task) ≡ available_of old (p, task)
  results_of_children p same task = ap (λ (children : List Child). filter_map (given_of task children) (candidates task (by_index children))) same

  -- with the same children
  pub children_show : (xs ys : List Verdict) (p : ℕ) → children_at ds p ≡ children_at cs p → label_at ys p ≡ label_at xs p → ShowsSame old new xs ys p
  children_show xs ys p same label =
      record {
        blocks = ap blocks label;
        good = λ i. option_map_or (λ (task : PipelineTask). all_ended (is_good task) (same i)) (slice_get all p) false || is_skipped_by_when (label i);
        skipped = λ good. ap is_skipped label;
        results = λ task is. results_of_children p same task;
      }

  -- with a child that runs in both
  pub running_shows : (xs ys : List Verdict) (p : ℕ) → RunsInBoth old new p → label_at ys p ≡ label_at xs p → ShowsSame old new xs ys p
  running_shows xs ys p runs label =
      let not_new = λ (t : PipelineTask). running_not_good (is_good t) (children_at ds p) runs.after in
      let not_old = λ (t : PipelineTask). running_not_good (is_good t) (children_at cs p) runs.before in
      let good : option_map_or (λ (task : PipelineTask). all_ended (is_good task) (children_at ds p)) (slice_get all p) false ≡ option_map_or (λ (task : PipelineTask). all_ended (is_good task) (children_at cs p)) (slice_get all p) false
      = none_passes (λ (task : PipelineTask). all_ended (is_good task) (children_at ds p)) (slice_get all p) not_new
      ∙ sym (none_passes (λ (task : PipelineTask). all_ended (is_good task) (children_at cs p)) (slice_get all p) not_old) in
      record {
        blocks = ap blocks label;
        good = λ i. good i || is_skipped_by_when (label i);
        skipped = λ is. ap is_skipped label;
        results = λ t there.
            gives_none t (children_at ds p) (candidates t (by_index (children_at ds p))) (not_new t) ∙ sym (gives_none t (children_at cs p) (candidates t (by_index (children_at cs p))) (not_old t));
      }

  -- with another label or other children, where it neither blocked nor was good, and doesn't now
  pub bad_shows : (xs ys : List Verdict) (p : ℕ) → blocks (label_at ys p) ≡ blocks (label_at xs p)
      → is_good_parent old (p, label_at xs p) ≡ false → is_good_parent new (p, label_at ys p) ≡ false → ShowsSame old new xs ys p
  bad_shows xs ys p blocked was_bad is_bad =
      record {
        blocks = blocked;
        good = is_bad ∙ sym was_bad;
        skipped = λ good. let no : true ≡ false = sym good ∙ was_bad in cc;
        results = λ task is.
            gives_none task (children_at ds p) (candidates task (by_index (children_at ds p))) (not_good ds p task is (or_parts (good_at ds p) (is_skipped_by_when (label_at ys p)) is_bad).0)
            ∙ sym (gives_none task (children_at cs p) (candidates task (by_index (children_at cs p))) (not_good cs p task is (or_parts (good_at cs p) (is_skipped_by_when (label_at xs p)) was_bad).0));
      }
    where
      good_at : List Child → ℕ → Bool
      good_at children p = option_map_or (λ (task : PipelineTask). all_ended (is_good task) (children_at children p)) (slice_get all p) false

      not_good : (children : List Child) (p : ℕ) (task : PipelineTask) → slice_get spec.tasks p ≡ Some task → good_at children p ≡ false → all_ended (is_good task) (children_at children p) ≡ false
      not_good children p task is bad =
          sym (ap (λ (o : Option PipelineTask). option_map_or (λ (task : PipelineTask). all_ended (is_good task) (children_at children p)) o false) (front_get spec.tasks spec.finally p task is)) ∙ bad

  -- labels

  abbrev rank : ℕ → ℕ
  rank p = slice_index formed.acyclic.0 p

  pub label_same : (place : ℕ) (task : PipelineTask) → slice_get spec.tasks place ≡ Some task → children_at ds place ≡ children_at cs place → first_stop new ≡ first_stop old
      → SameParentsFor (labels_of old) (labels_of new) place → label_of new place ≡ label_of old place
  label_same place task is children stop same =
      task_label new formed.acyclic place task is ∙ (line_same (labels_of old) (labels_of new) place task is children stop same ∙ sym (task_label old formed.acyclic place task is))

  -- some places with all their parents, of which each has the same children, or a child that runs in both
  module _ (stop : first_stop new ≡ first_stop old) (Among : ℕ → Type 0)
      (closed : (p q : ℕ) → Among p → Contains (parents spec.tasks p) q → Among q)
      (each : (q : ℕ) → q < length spec.tasks → Among q → (children_at ds q ≡ children_at cs q) ⊎ RunsInBoth old new q) where
    shows : (q : ℕ) → q < length spec.tasks → Among q → label_of new q ≡ label_of old q → ShowsSame old new (labels_of old) (labels_of new) q
    shows q within there label =
        elim (each q within there) [
          | inl same ↦ children_show (labels_of old) (labels_of new) q same label
          | inr runs ↦ running_shows (labels_of old) (labels_of new) q runs label
        ]

    stays_by : (k p : ℕ) → rank p < k → p < length spec.tasks → Among p → label_of new p ≡ label_of old p
    stays_by zero p low within among = absurd (omega arith)
    stays_by (suc k) p low within among =
        elim (slice_get_cases spec.tasks p).1 [
          | inl found ↦ elim (each p within among) [
            | inl same ↦ label_same p found.0 found.2 same stop
                (λ q c.
                let lower : rank q < rank p = formed.acyclic.1.rising q p c in
                let within_q : q < length spec.tasks = parents_within spec.tasks p q c in
                let there : Among q = closed p q among c in
                shows q within_q there (stays_by k q (omega arith) within_q there))
            | inr runs ↦ runs_at new formed.acyclic p found.0 found.2 runs.after ∙ sym (runs_at old formed.acyclic p found.0 found.2 runs.before)
          ]
          | inr past ↦ absurd (omega arith)
        ]

    pub labels_stay : (p : ℕ) → p < length spec.tasks → Among p → label_of new p ≡ label_of old p
    labels_stay p within among = stays_by (suc (rank p)) p (omega arith) within among
