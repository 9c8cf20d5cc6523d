-- A good parent stays good, with the same children. So what the rules give a task of `tasks` stays.
use Rattle.std.proofs.Common.{◌≡◌, ◌≢◌, ℕ, zero, suc, ◌<◌, Bool, true, false, ◌&&◌, ◌||◌, not, List, [], ◌∷◌, map, length, Option, Some, None, refl, sym, ap, ◌∙◌, inl, inr, arith}
use Rattle.std.specs.Prelude.{Contains, if◌then◌else◌, is_none, slice_get, slice_index, option_map}
use Rattle.std.specs.List.{list_any, list_all}
use Rattle.std.specs.Option.{option_map_or}
use Rattle.std.proofs.lemmas.Bool.{or_cases, or_left, or_right, and_parts, not-true, false_from_ne_true}
use Rattle.std.proofs.lemmas.List.Elements.{Contains-append_left}
use Rattle.std.proofs.lemmas.Option.{slice_get_cases, slice_get_within, get_or_from_slice_get}
use Rattle.tk_types.specs.declared.value.Param.{Param}
use Rattle.tk_types.specs.declared.task.Matrix.{Matrix}
use Rattle.tk_types.specs.declared.task.PipelineTask.{PipelineTask}
use Rattle.tk_types.specs.declared.run.Facts.{Facts}
use Rattle.tk_types.specs.declared.run.Child.{Child}
use Rattle.tk_types.specs.declared.run.RunSpec.{RunSpec}
use Rattle.tk_types.specs.declared.run.Stop.{Stop}
use Rattle.tk_types.specs.declared.verdict.Binding.{Binding}
use Rattle.tk_types.specs.declared.verdict.SkipReason.{SkipReason}
use Rattle.tk_types.specs.declared.verdict.SkipReason.TheVariants.{Parent, Missing, Broken, When, EmptyMatrix, Stopped}
use Rattle.tk_types.specs.declared.verdict.Verdict.{Verdict}
use Rattle.tk_types.specs.declared.verdict.Verdict.TheVariants.{Ran, Skipped, Runs, Ready, Waits, Wrong}
use Rattle.tk_types.specs.Lists.{is_empty, first_row}
use Rattle.tk_graph.specs.Parents.{parents}
use Rattle.tk_guard.specs.When.{all_hold}
use Rattle.tk_matrix.specs.Combinations.{has_empty_list}
use Rattle.tk_bind.specs.declared.env.Env.{Env}
use Rattle.tk_verdict.specs.Bindings.{fits_at, combinations_in}
use Rattle.tk_verdict.specs.Facts.{all_tasks, children_at, children_of, is_running, all_ended, is_good, first_stop}
use Rattle.tk_verdict.specs.Gives.{label_of, GivesTask}
use Rattle.tk_verdict.specs.Labels.{labels_of, labelled_parents, label_by}
use Rattle.tk_verdict.specs.Rows.{is_good_parent, refers_to, own_rows, lacks_result, task_row}
use Rattle.tk_verdict.specs.Verdict.{is_skipped, is_skipped_by_when, blocks}
use Rattle.tk_verdict.specs.WellFormed.{IsWellFormed}
use Rattle.tk_early.specs.Words.{task_words}
use Rattle.tk_verdict.specs.Words.{task_env}
use Rattle.tk_verdict.proofs.Elements.{any_same, all_of, all_at, map_in}
use Rattle.tk_verdict.proofs.Lines.{next_by, ready_parts, skipped_parts, row_is, ready_has_none, skipped_has_none, task_label}
use Rattle.tk_verdict.proofs.Locality.{parents_within}
use Rattle.tk_verdict.proofs.NamedParents.{parent_in}
use Rattle.tk_verdict.proofs.Resting.{all_ended_rests}
use Rattle.tk_verdict.proofs.SameResults.{KnowsReadings, with_children, tasks_agree}
use Rattle.tk_verdict.proofs.SameValues.{SameTask}

option_true : {X : Type 0} (f : X → Bool) (o : Option X) → option_map_or f o false ≡ true → (x : X) × (o ≡ Some x) × (f x ≡ true)
option_true f None is = cc
option_true f (Some x) is = (x, refl, is)

pub task_in : {X : Type 0} (xs : List X) (q : ℕ) (x : X) → slice_get xs q ≡ Some x → Contains xs x
task_in xs q x is = (q, slice_get_within xs q x is, get_or_from_slice_get xs q x x is)

-- labels

skipped_reason : (v : Verdict) → is_skipped v ≡ true → (reason : SkipReason) × (v ≡ Skipped reason)
skipped_reason (Skipped reason) is = (reason, refl)
skipped_reason Ran is = cc
skipped_reason Runs is = cc
skipped_reason Ready is = cc
skipped_reason Waits is = cc
skipped_reason Wrong is = cc

pub quiet : (v : Verdict) → is_skipped v ≡ false → blocks v ≡ false
quiet (Skipped reason) is = cc
quiet Ran is = refl
quiet Runs is = refl
quiet Ready is = refl
quiet Waits is = refl
quiet Wrong is = refl

pub when_label : (v : Verdict) → is_skipped_by_when v ≡ true → v ≡ Skipped When
when_label (Skipped When) is = refl
when_label (Skipped Parent) is = cc
when_label (Skipped Missing) is = cc
when_label (Skipped Broken) is = cc
when_label (Skipped EmptyMatrix) is = cc
when_label (Skipped (Stopped stop)) is = cc
when_label Ran is = cc
when_label Runs is = cc
when_label Ready is = cc
when_label Waits is = cc
when_label Wrong is = cc

when_not_ready : (v : Verdict) → v ≡ Skipped When → v ≢ Ready
when_not_ready v skipped ready = cc

pub not_skipped : (facts : Facts) (place : ℕ) → is_empty (children_of facts place) ≡ false → is_skipped (label_of facts place) ≡ false
not_skipped facts place some =
    false_from_ne_true (is_skipped (label_of facts place))
    (λ is.
    let reason = skipped_reason (label_of facts place) is in
    let none : is_empty (children_of facts place) ≡ true = ap is_empty (skipped_has_none facts place reason.0 reason.1) in
    cc)

not_ready : (facts : Facts) (place : ℕ) → is_empty (children_of facts place) ≡ false → label_of facts place ≢ Ready
not_ready facts place some is = let none : is_empty (children_of facts place) ≡ true = ap is_empty (ready_has_none facts place is) in cc

-- where the first row that holds is `When`, all parents are good
when_good : (blocked all : Bool) (own : List (Bool × SkipReason)) → first_row ((blocked, Parent) ∷ (if all then own else [])) ≡ Some When → all ≡ true
when_good blocked true own is = refl
when_good true false own is = cc
when_good false false own is = cc

-- Two states of a run with the same spec, where a task that rests has the same children.
module _ (spec : RunSpec) (was now : List Stop) (cs ds : List Child) (knows : KnowsReadings) (formed : IsWellFormed (with_children spec was cs))
    (rest : (p : ℕ) → label_of (with_children spec was cs) p ≢ Ready → list_any is_running (children_at cs p) ≡ false → children_at ds p ≡ children_at cs p) where
  abbrev old : Facts
  old = with_children spec was cs

  abbrev new : Facts
  new = with_children spec now ds

  -- what a task's own rows say of it in two environments that make the same of it
  pub own_same : (a b : Env) (place : ℕ) (task : PipelineTask) → SameTask a b task → own_rows new a place task ≡ own_rows old b place task
  own_same a b place task same =
      λ i.
      (is_none (same.guards i) || not (option_map_or (list_all (fits_at old place)) (same.combinations i) false), Broken)
      ∷ (option_map_or (λ guards. not (all_hold guards)) (same.guards i) false, When)
      ∷ (option_map_or (λ (matrix : Option Matrix). option_map_or (λ (m : Matrix). has_empty_list m.params) matrix false) (same.matrix i) false, EmptyMatrix)
      ∷ []

  -- what is known of a good parent
  pub record Stays (p : ℕ) : Type 0 where
    pub children : children_at ds p ≡ children_at cs p
    pub quiet_old : blocks (label_of old p) ≡ false
    pub quiet_new : blocks (label_of new p) ≡ false
    pub skipped : is_skipped (label_of new p) ≡ is_skipped (label_of old p)
    pub good : is_good_parent new (p, label_of new p) ≡ true

  abbrev ParentsStay : ℕ → Type 0
  ParentsStay place = (q : ℕ) → Contains (parents spec.tasks place) q → Stays q

  abbrev parents_of : Facts → ℕ → List (ℕ × Verdict)
  parents_of facts place = labelled_parents facts (labels_of facts) place

  pub task_agrees : (place : ℕ) (task : PipelineTask) → slice_get spec.tasks place ≡ Some task → ((q : ℕ) → Contains (parents spec.tasks place) q → children_at ds q ≡ children_at cs q)
      → SameTask (task_env new task) (task_env old task) task
  task_agrees place task is same =
      tasks_agree spec was now cs ds knows formed (task_words spec task) task (Contains-append_left spec.tasks spec.finally task (task_in spec.tasks place task is))
      (λ q parent there named. same q (parent_in spec.tasks place q task parent is there named))

  row_same : (place : ℕ) (task : PipelineTask) → slice_get spec.tasks place ≡ Some task → ParentsStay place → list_all (is_good_parent old) (parents_of old place) ≡ true
      → task_row new (parents_of new place) (task_env new task) place task ≡ task_row old (parents_of old place) (task_env old task) place task
  row_same place task is stay good =
      let ps = parents spec.tasks place in
      let pair_new : ℕ → ℕ × Verdict = λ q. (q, label_of new q) in
      let pair_old : ℕ → ℕ × Verdict = λ q. (q, label_of old q) in
      let blocked : list_any (λ (p : ℕ × Verdict). blocks p.1) (parents_of new place) ≡ list_any (λ (p : ℕ × Verdict). blocks p.1) (parents_of old place)
      = any_same (λ (p : ℕ × Verdict). blocks p.1) (λ (p : ℕ × Verdict). blocks p.1) pair_new pair_old ps (λ q c. (stay q c).quiet_new ∙ sym (stay q c).quiet_old) in
      let all : list_all (is_good_parent new) (parents_of new place) ≡ list_all (is_good_parent old) (parents_of old place)
      = all_of (is_good_parent new) pair_new ps (λ q c. (stay q c).good) ∙ sym good in
      let lacks : lacks_result new (parents_of new place) task ≡ lacks_result old (parents_of old place) task
      = any_same (λ (p : ℕ × Verdict). is_skipped p.1 && refers_to new task p.0) (λ (p : ℕ × Verdict). is_skipped p.1 && refers_to old task p.0) pair_new pair_old ps (λ q c. ap (λ b. b && refers_to old task q) (stay q c).skipped) in
      let own = own_same (task_env new task) (task_env old task) place task (task_agrees place task is (λ q c. (stay q c).children)) in
      λ i. first_row ((blocked i, Parent) ∷ (if all i then (lacks i, Missing) ∷ own i else []))

  by_children : (p : ℕ) → option_map_or (λ (task : PipelineTask). all_ended (is_good task) (children_at cs p)) (slice_get (all_tasks old) p) false ≡ true → Stays p
  by_children p h =
      let found = option_true (λ (task : PipelineTask). all_ended (is_good task) (children_at cs p)) (slice_get (all_tasks old) p) h in
      let parts = and_parts (not (is_empty (children_at cs p))) _ found.2 in
      let some : is_empty (children_at cs p) ≡ false = not-true (is_empty (children_at cs p)) parts.0 in
      let same : children_at ds p ≡ children_at cs p = rest p (not_ready old p some) (all_ended_rests (is_good found.0) (children_at cs p) parts.1) in
      let skipped_old : is_skipped (label_of old p) ≡ false = not_skipped old p some in
      let skipped_new : is_skipped (label_of new p) ≡ false = not_skipped new p (ap is_empty same ∙ some) in
      record {
        children = same;
        quiet_old = quiet (label_of old p) skipped_old;
        quiet_new = quiet (label_of new p) skipped_new;
        skipped = skipped_new ∙ sym skipped_old;
        good = or_left _ (is_skipped_by_when (label_of new p))
            (ap (λ (children : List Child). option_map_or (λ (task : PipelineTask). all_ended (is_good task) children) (slice_get (all_tasks old) p) false) same ∙ h);
      }

  by_when : (p : ℕ) (task : PipelineTask) → slice_get spec.tasks p ≡ Some task → label_of old p ≡ Skipped When
      → ((q : ℕ) → Contains (parents spec.tasks p) q → is_good_parent old (q, label_of old q) ≡ true → Stays q) → Stays p
  by_when p task is label stays_if =
      let line = task_label old formed.acyclic p task is in
      let parts = skipped_parts (children_at cs p) (combinations_in (task_env old task) task) (task_row old (parents_of old p) (task_env old task) p task) (first_stop old)
      (list_all (is_good_parent old) (parents_of old p)) When (sym line ∙ label) in
      let row : task_row old (parents_of old p) (task_env old task) p task ≡ Some When = row_is _ (first_stop old) parts.1 in
      let good : list_all (is_good_parent old) (parents_of old p) ≡ true = when_good _ _ _ row in
      let stay : ParentsStay p = λ q c. stays_if q c (all_at (is_good_parent old) (parents_of old p) (q, label_of old q) good (map_in (λ (r : ℕ). (r, label_of old r)) (parents spec.tasks p) q c)) in
      let same : children_at ds p ≡ children_at cs p = rest p (when_not_ready (label_of old p) label) (ap (list_any is_running) parts.0) in
      let none : children_at ds p ≡ [] = same ∙ parts.0 in
      let row_new : task_row new (parents_of new p) (task_env new task) p task ≡ Some When = row_same p task is stay good ∙ row in
      let label_new : label_of new p ≡ Skipped When
      = task_label new formed.acyclic p task is
      ∙ (λ i. label_by (none i) (combinations_in (task_env new task) task) (row_new i) (first_stop new) (next_by (list_all (is_good_parent new) (parents_of new p)))) in
      record {
        children = same;
        quiet_old = ap blocks label;
        quiet_new = ap blocks label_new;
        skipped = ap is_skipped label_new ∙ sym (ap is_skipped label);
        good = or_right _ (is_skipped_by_when (label_of new p)) (ap is_skipped_by_when label_new);
      }

  abbrev rank : ℕ → ℕ
  rank p = slice_index formed.acyclic.0 p

  good_stays_by : (k p : ℕ) → rank p < k → p < length spec.tasks → is_good_parent old (p, label_of old p) ≡ true → Stays p
  good_stays_by zero p low within good = absurd (omega arith)
  good_stays_by (suc k) p low within good =
      elim (or_cases (option_map_or (λ (task : PipelineTask). all_ended (is_good task) (children_at cs p)) (slice_get (all_tasks old) p) false) (is_skipped_by_when (label_of old p)) good) [
        | inl children ↦ by_children p children
        | inr skipped ↦ elim (slice_get_cases spec.tasks p).1 [
          | inl found ↦ by_when p found.0 found.2 (when_label (label_of old p) skipped)
              (λ q c good_q. let lower : rank q < rank p = formed.acyclic.1.rising q p c in good_stays_by k q (omega arith) (parents_within spec.tasks p q c) good_q)
          | inr past ↦ absurd (omega arith)
        ]
      ]

  pub good_stays : (p : ℕ) → p < length spec.tasks → is_good_parent old (p, label_of old p) ≡ true → Stays p
  good_stays p within good = good_stays_by (suc (rank p)) p (omega arith) within good

  -- where all parents of a task are good they stay
  pub parents_stay : (place : ℕ) → list_all (is_good_parent old) (parents_of old place) ≡ true → ParentsStay place
  parents_stay place good q c =
      good_stays q (parents_within spec.tasks place q c)
      (all_at (is_good_parent old) (parents_of old place) (q, label_of old q) good (map_in (λ (r : ℕ). (r, label_of old r)) (parents spec.tasks place) q c))

  pub all_good : (place : ℕ) → list_all (is_good_parent old) (parents_of old place) ≡ true → list_all (is_good_parent new) (parents_of new place) ≡ true
  all_good place good = all_of (is_good_parent new) (λ (q : ℕ). (q, label_of new q)) (parents spec.tasks place) (λ q c. (parents_stay place good q c).good)

  pub gives_task_stays : (place : ℕ) (task : PipelineTask) (bindings : List Binding) → GivesTask old place task bindings → GivesTask new place task bindings
  gives_task_stays place task bindings gives =
      let stay = parents_stay place gives.good in
      let same = task_agrees place task gives.of_tasks (λ q c. (stay q c).children) in
      record {
        of_tasks = gives.of_tasks;
        good = all_good place gives.good;
        no_row = row_same place task gives.of_tasks stay gives.good ∙ gives.no_row;
        bound = ap (option_map (map (λ (params : List Param). record { params = params }))) same.combinations ∙ gives.bound;
      }

  -- a Ready task of `tasks` without new children and stops stays Ready
  pub ready_task_stays : (place : ℕ) (task : PipelineTask) → slice_get spec.tasks place ≡ Some task → children_at ds place ≡ children_at cs place → first_stop new ≡ first_stop old
      → label_of old place ≡ Ready → label_of new place ≡ Ready
  ready_task_stays place task is same stop ready =
      let line = task_label old formed.acyclic place task is in
      let parts = ready_parts (children_at cs place) (combinations_in (task_env old task) task) (task_row old (parents_of old place) (task_env old task) place task) (first_stop old)
      (list_all (is_good_parent old) (parents_of old place)) (sym line ∙ ready) in
      let children : children_at ds place ≡ [] = same ∙ parts.0 in
      let row : task_row new (parents_of new place) (task_env new task) place task ≡ None = row_same place task is (parents_stay place parts.3) parts.3 ∙ parts.1 in
      let none : first_stop new ≡ None = stop ∙ parts.2 in
      let good = all_good place parts.3 in
      task_label new formed.acyclic place task is
      ∙ (λ i. label_by (children i) (combinations_in (task_env new task) task) (row i) (none i) (next_by (good i)))
