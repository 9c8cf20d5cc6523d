-- The texts of a task see the results of its parents alone.
use Rattle.std.proofs.Common.{◌≡◌, ℕ, suc, ◌+◌, ◌-◌, ◌<◌, Bool, true, false, List, [], ◌∷◌, ◌++◌, length, map, Option, Some, None, refl, sym, ap, ◌∙◌, inl, inr, arith}
use Rattle.std.specs.Prelude.{◌⊎◌, if◌then◌else◌, slice_get, IsTrue, Contains, filter, find, flat_map, bytes_eq, option_map}
use Rattle.std.specs.List.{AllByRecursion, enumerate_from, list_all}
use Rattle.std.specs.Option.{option_map_or, option_or}
use Rattle.std.proofs.lemmas.Bool.{cases_Bool}
use Rattle.std.proofs.lemmas.List.Elements.{Contains-append_left, All-contains}
use Rattle.std.proofs.lemmas.List.Folds.{find-append}
use Rattle.std.proofs.lemmas.Grind.{flat_map-append}
use Rattle.std.proofs.lemmas.Option.{slice_get_read}
use Rattle.std.proofs.lemmas.Slice.Eq.{bytes_eq-Decides}
use Rattle.tk_types.specs.declared.task.Matrix.{Matrix}
use Rattle.tk_types.specs.declared.task.PipelineTask.{PipelineTask}
use Rattle.tk_types.specs.declared.run.Facts.{Facts}
use Rattle.tk_vars.specs.Offset.{bad_offset}
use Rattle.tk_vars.specs.Reading.{HasReading}
use Rattle.tk_types.specs.Lists.{places_where}
use Rattle.tk_graph.specs.Parents.{is_parent, parent_names, parents}
use Rattle.tk_graph.specs.Unknown.{is_known}
use Rattle.tk_graph.specs.Results.{task_texts, text_results, task_results, params_texts}
use Rattle.tk_matrix.specs.Combinations.{has_empty_list}
use Rattle.tk_bind.specs.declared.env.Given.{Given}
use Rattle.tk_verdict.specs.Available.{available_of, available_results, candidates, by_index}
use Rattle.tk_verdict.specs.Facts.{all_tasks, children_of}
use Rattle.tk_verdict.specs.Own.{own_in}
use Rattle.tk_verdict.specs.WellFormed.{IsWellFormed, facts_texts}
use Rattle.tk_verdict.specs.Words.{task_env}
use Rattle.tk_verdict.proofs.Elements.{all_at, back_get, each_from, enumerated, first_in, next_in}
use Rattle.tk_verdict.proofs.GoodStays.{task_in}
use Rattle.tk_verdict.proofs.NamedParents.{among_first, flat_in, in_parent_names, is_parent_named}
use Rattle.tk_verdict.proofs.SameResults.{KnowsReadings}
use Rattle.tk_verdict.proofs.SameValues.{SameTask, SameText, SameResult, task_same, text_agrees}
use Rattle.tk_labels.specs.Local.{parents_env, results_at}
use Rattle.tk_labels.proofs.SameFaces.{is_named, none_of_other, Named}

few_found : (facts : Facts) (named : Named) (test : ℕ × PipelineTask → Bool) (es : List (ℕ × PipelineTask)) → AllByRecursion (λ e. e.1.name ≡ named.0 → test e ≡ true) es
    → find (is_named named) (flat_map (available_of facts) (filter test es)) ≡ find (is_named named) (flat_map (available_of facts) es)
few_found facts named test [] all = refl
few_found facts named test (e ∷ es) all =
    elim (cases_Bool (test e)) [
      | inl pass ↦ rw pass
          (find-append (is_named named) (available_of facts e) (flat_map (available_of facts) (filter test es))
          ∙ (ap (option_or (find (is_named named) (available_of facts e))) (few_found facts named test es all.1)
          ∙ sym (find-append (is_named named) (available_of facts e) (flat_map (available_of facts) es))))
      | inr fail ↦ rw fail
          (few_found facts named test es all.1
          ∙ sym (find-append (is_named named) (available_of facts e) (flat_map (available_of facts) es)
          ∙ ap (λ (o : Option Given). option_or o (find (is_named named) (flat_map (available_of facts) es))) (none_here (cases_Bool (bytes_eq e.1.name named.0)) fail)))
    ]
  where
    none_here : (bytes_eq e.1.name named.0 ≡ true) ⊎ (bytes_eq e.1.name named.0 ≡ false) → test e ≡ false → find (is_named named) (available_of facts e) ≡ None
    none_here (inl is) fail = let pass = all.0 ((bytes_eq-Decides e.1.name named.0).0 is) in cc
    none_here (inr differs) fail = none_of_other named e.1 (children_of facts e.0) (candidates e.1 (by_index (children_of facts e.0))) differs

none_found : (facts : Facts) (named : Named) (es : List (ℕ × PipelineTask)) → AllByRecursion (λ e. bytes_eq e.1.name named.0 ≡ false) es → find (is_named named) (flat_map (available_of facts) es) ≡ None
none_found facts named [] all = refl
none_found facts named (e ∷ es) all =
    find-append (is_named named) (available_of facts e) (flat_map (available_of facts) es)
    ∙ (λ i. option_or (none_of_other named e.1 (children_of facts e.0) (candidates e.1 (by_index (children_of facts e.0))) all.0 i) (none_found facts named es all.1 i))

option_or_none : {X : Type 0} (o : Option X) → option_or o None ≡ o
option_or_none None = refl
option_or_none (Some x) = refl

-- lists with their places

split_places : {X : Type 0} (a : ℕ) (xs ys : List X) → enumerate_from a (xs ++ ys) ≡ enumerate_from a xs ++ enumerate_from (a + length xs) ys
split_places a [] ys = ap (λ n. enumerate_from n ys) (omega arith)
split_places a (x ∷ xs) ys = let same : (a + 1) + length xs ≡ a + suc (length xs) = omega arith in ap (λ es. (a, x) ∷ es) (split_places (a + 1) xs ys ∙ ap (λ n. enumerate_from (a + 1) xs ++ enumerate_from n ys) same)

each_place : {X : Type 0} (P : X → Type 0) (a : ℕ) (xs : List X) → ((x : X) → Contains xs x → P x) → AllByRecursion (λ e. P e.1) (enumerate_from a xs)
each_place P a [] h = tt
each_place P a (x ∷ xs) h = (h x (first_in x xs), each_place P (a + 1) xs (λ y c. h y (next_in y x xs c)))

each_filtered : {X : Type 0} (P : X → Type 0) (test : X → Bool) (xs : List X) → AllByRecursion P xs → AllByRecursion P (filter test xs)
each_filtered P test [] all = tt
each_filtered P test (x ∷ xs) all = by_test (test x) all.0 (each_filtered P test xs all.1)
  where
    by_test : (b : Bool) → P x → AllByRecursion P (filter test xs) → AllByRecursion P (if b then x ∷ filter test xs else filter test xs)
    by_test true here rest = (here, rest)
    by_test false here rest = rest

of_places : (facts : Facts) (es : List (ℕ × PipelineTask)) → AllByRecursion (λ e. slice_get facts.spec.tasks e.0 ≡ Some e.1) es
    → flat_map (results_at facts) (map (λ (e : ℕ × PipelineTask). e.0) es) ≡ flat_map (available_of facts) es
of_places facts [] all = refl
of_places facts (e ∷ es) all = λ i. option_map_or (λ (task : PipelineTask). available_of facts (e.0, task)) (all.0 i) [] ++ of_places facts es all.1 i

module _ (knows : KnowsReadings) (facts : Facts) (formed : IsWellFormed facts) (place : ℕ) (task : PipelineTask) (is : slice_get facts.spec.tasks place ≡ Some task) where
  abbrev tasks : List PipelineTask
  tasks = facts.spec.tasks

  abbrev finals : List PipelineTask
  finals = facts.spec.finally

  abbrev named_parent : ℕ × PipelineTask → Bool
  named_parent e = is_parent e.1 task

  there : Contains (all_tasks facts) task
  there = Contains-append_left tasks finals task (task_in tasks place task is)

  -- a task of `finally` has none of the names
  final_differs : (named : Named) → Contains (task_results task) named → (other : PipelineTask) → Contains finals other → bytes_eq other.name named.0 ≡ false
  final_differs named refers other c =
      elim (cases_Bool (bytes_eq other.name named.0)) [
        | inl same ↦
            let name_in : Contains (parent_names task) named.0 = in_parent_names task named refers in
            let known : is_known tasks named.0 ≡ true
            = all_at (is_known tasks) (parent_names task) named.0 (All-contains (λ (t : PipelineTask). IsTrue (list_all (is_known tasks) (parent_names t))) (all_tasks facts) task formed.parents_exist there) name_in in
            let at : slice_get finals c.0 ≡ Some other = slice_get_read finals (length finals) c.0 other refl c.1 (sym c.2) in
            let behind : length tasks + c.0 - length tasks ≡ c.0 = omega arith in
            let found : slice_get (all_tasks facts) (length tasks + c.0) ≡ Some other
            = back_get tasks finals (length tasks + c.0) (omega arith) ∙ (ap (slice_get finals) behind ∙ at) in
            let early : length tasks + c.0 < length tasks = among_first tasks finals (length tasks + c.0) other named.0 formed.names_differ known found ((bytes_eq-Decides other.name named.0).0 same) in
            absurd (omega (arith, early))
        | inr differs ↦ differs
      ]

  -- so what is found among all is found among `tasks`
  first_found : (named : Named) → Contains (task_results task) named
      → find (is_named named) (available_results facts) ≡ find (is_named named) (flat_map (available_of facts) (enumerate_from 0 tasks))
  first_found named refers =
      let front = flat_map (available_of facts) (enumerate_from 0 tasks) in
      let last = enumerate_from (0 + length tasks) finals in
      let none : find (is_named named) (flat_map (available_of facts) last) ≡ None
      = none_found facts named last (each_place (λ (t : PipelineTask). bytes_eq t.name named.0 ≡ false) (0 + length tasks) finals (λ t c. final_differs named refers t c)) in
      ap (λ (es : List (ℕ × PipelineTask)). find (is_named named) (flat_map (available_of facts) es)) (split_places 0 tasks finals)
      ∙ (ap (find (is_named named)) (flat_map-append (available_of facts) (enumerate_from 0 tasks) last)
      ∙ (find-append (is_named named) front (flat_map (available_of facts) last)
      ∙ (ap (option_or (find (is_named named) front)) none ∙ option_or_none (find (is_named named) front))))

  parents_results : flat_map (results_at facts) (parents tasks place) ≡ flat_map (available_of facts) (filter named_parent (enumerate_from 0 tasks))
  parents_results =
      ap (λ (o : Option PipelineTask). flat_map (results_at facts) (option_map_or (λ (t : PipelineTask). places_where (λ parent. is_parent parent t) tasks) o [])) is
      ∙ of_places facts (filter named_parent (enumerate_from 0 tasks))
      (each_filtered (λ e. slice_get tasks e.0 ≡ Some e.1) named_parent (enumerate_from 0 tasks)
      (each_from (λ e. slice_get tasks e.0 ≡ Some e.1) (enumerate_from 0 tasks) (λ e c. enumerated tasks e c)))

  few_same : (named : Named) → Contains (task_results task) named → SameResult (parents_env facts place task) (task_env facts task) named
  few_same named refers =
      let name_in : Contains (parent_names task) named.0 = in_parent_names task named refers in
      ap (option_map (λ (g : Given). g.value))
      (ap (find (is_named named)) parents_results
      ∙ (few_found facts named named_parent (enumerate_from 0 tasks)
      (each_from (λ (e : ℕ × PipelineTask). e.1.name ≡ named.0 → named_parent e ≡ true) (enumerate_from 0 tasks) (λ e d same. is_parent_named e.1 task named.0 name_in same))
      ∙ sym (first_found named refers)))

  text_good : (text : List ℕ) → Contains (task_texts task) text → bad_offset text ≡ None
  text_good text d =
      knows text
      (All-contains HasReading (facts_texts facts) text formed.readable
      (Contains-append_left _ (params_texts facts.spec.results) text (Contains-append_left (flat_map task_texts (all_tasks facts)) _ text (flat_in task_texts (all_tasks facts) task text there d))))

  agrees : SameTask (parents_env facts place task) (task_env facts task) task
  agrees =
      task_same (parents_env facts place task) (task_env facts task) task
      (each_from (SameText (parents_env facts place task) (task_env facts task)) (task_texts task)
      (λ text d. text_agrees (parents_env facts place task) (task_env facts task) refl refl text (text_good text d)
      (λ named e. few_same named (flat_in text_results (task_texts task) text named d e))))

  pub parents_suffice : own_in (parents_env facts place task) task ≡ own_in (task_env facts task) task
  parents_suffice =
      λ i.
      record {
        guards = agrees.guards i;
        combined = record {
          is_empty = option_map_or (λ (matrix : Option Matrix). option_map_or (λ (m : Matrix). has_empty_list m.params) matrix false) (agrees.matrix i) false;
          list = agrees.combinations i;
        };
      }
