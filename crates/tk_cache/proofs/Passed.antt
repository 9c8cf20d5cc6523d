-- One entry further, and a front that stays.
use Rattle.std.proofs.Common.{◌≡◌, ◌≢◌, ℕ, zero, suc, ◌+◌, List, [], ◌∷◌, ◌++◌, Option, Some, None, Bool, true, false, refl, sym, ap, ◌∙◌, subst, cond, inl, inr}
use Rattle.std.specs.Prelude.{slice_get, bytes_eq, ◌&&◌}
use Rattle.std.proofs.lemmas.Bool.{cases_Bool}
use Rattle.std.proofs.lemmas.Option.{same_Some}
use Rattle.std.proofs.lemmas.Slice.Eq.{bytes_eq-Decides}
use Rattle.tk_types.specs.declared.scenario.Kind.{Kind}
use Rattle.tk_types.specs.declared.scenario.Kind.TheVariants as kinds
use Rattle.tk_journal.specs.declared.entry.Entry.{Entry}
use Rattle.tk_journal.specs.declared.entry.Fronts.{Fronts}
use Rattle.tk_journal.specs.declared.object.RunState.{RunState}
use Rattle.tk_journal.specs.declared.object.TaskRunState.{TaskRunState}
use Rattle.tk_journal.specs.declared.object.PodState.{PodState}
use Rattle.tk_journal.specs.Effects.{name_of, kind_of, same_kind, writes, run_after, task_run_after, pod_after}
use Rattle.tk_journal.specs.History.{View, past, front_of, view_at, names_of, creates, state_of, run_of, task_run_of, pod_of, run_written, task_run_written, pod_written}
use Rattle.tk_journal.specs.Journal.{entry_at}
use Rattle.tk_journal.proofs.Positions.{past_step}
use Rattle.tk_cache.specs.Fronts.{Shows, with_front}
use Rattle.tk_cache.specs.Passed.{AreSame, AreSameOf, AreSameBut, AreSameButOf}
use Rattle.tk_cache.specs.Views.{Seen}

-- a view's objects and names of a kind are those at the kind's front
module _ (seen : Seen) (history : List Entry) (shows : Shows seen history) where
  seen_by : {X : Type 0} (f : View → X) → f seen.view ≡ f (view_at seen.fronts history)
  seen_by f = ap f shows.same

module _ (was now : Seen) (history : List Entry) (shown : Shows was history) (shows : Shows now history) where
  stays : {X : Type 0} (f : View → X) (at : ℕ → X) (before after : ℕ) → f (view_at was.fronts history) ≡ at before → f (view_at now.fronts history) ≡ at after → after ≡ before → f now.view ≡ f was.view
  stays f at before after is_before is_after same = seen_by now history shows f ∙ is_after ∙ ap at same ∙ sym is_before ∙ sym (seen_by was history shown f)

  pub same_of : (kind : Kind) → front_of kind now.fronts ≡ front_of kind was.fronts → AreSameOf kind was.view now.view
  same_of kinds.Runs same = record {
    objects = stays (λ v. v.run) (λ n. run_of (past n history)) was.fronts.runs now.fronts.runs refl refl same;
    names = stays (λ v. v.runs) (λ n. names_of kinds.Runs (past n history)) was.fronts.runs now.fronts.runs refl refl same;
  }
  same_of kinds.TaskRuns same = record {
    objects = stays (λ v. v.task_run) (λ n. task_run_of (past n history)) was.fronts.task_runs now.fronts.task_runs refl refl same;
    names = stays (λ v. v.task_runs) (λ n. names_of kinds.TaskRuns (past n history)) was.fronts.task_runs now.fronts.task_runs refl refl same;
  }
  same_of kinds.Pods same = record {
    objects = stays (λ v. v.pod) (λ n. pod_of (past n history)) was.fronts.pods now.fronts.pods refl refl same;
    names = stays (λ v. v.pods) (λ n. names_of kinds.Pods (past n history)) was.fronts.pods now.fronts.pods refl refl same;
  }

-- an entry writes no object of another name
written_not : (kind : Kind) (e : Entry) (other : List ℕ) → name_of e.act ≢ other → writes kind other e ≡ false
written_not kind e other differ = elim (cases_Bool (bytes_eq (name_of e.act) other)) [
  | inl same ↦ absurd (differ ((bytes_eq-Decides (name_of e.act) other).0 same))
  | inr apart ↦ ap (λ (b : Bool). same_kind kind (kind_of e.act) && b) apart ∙ and_false (same_kind kind (kind_of e.act))
]
  where
    and_false : (b : Bool) → (b && false) ≡ false
    and_false true = refl
    and_false false = refl

-- a name behind others that isn't the last
stood : (names : List (List ℕ)) (name : List ℕ) (place : ℕ) (other : List ℕ) → name ≢ other → slice_get (names ++ name ∷ []) place ≡ Some other → slice_get names place ≡ Some other
stood [] name zero other differ at = absurd (differ (same_Some name other at))
stood [] name (suc place) other differ at = absurd (cc (at))
stood (first ∷ names) name zero other differ at = at
stood (first ∷ names) name (suc place) other differ at = stood names name place other differ at

named_before : (b : Bool) (names : List (List ℕ)) (name : List ℕ) (place : ℕ) (other : List ℕ) → name ≢ other → slice_get (cond b (names ++ name ∷ []) names) place ≡ Some other → slice_get names place ≡ Some other
named_before true names name place other differ at = stood names name place other differ at
named_before false names name place other differ at = at

-- what is there stays there
stays_absent : {X : Type 0} (b : Bool) (written before : Option X) → ((x : X) → before ≡ Some x → written ≢ None) → cond b written before ≡ None → before ≡ None
stays_absent true written None keeps gone = refl
stays_absent true written (Some x) keeps gone = absurd (keeps x refl gone)
stays_absent false written before keeps gone = gone

module _ (older : List Entry) (e : Entry) where
  run_absent : (other : List ℕ) → run_of (e ∷ older) other ≡ None → run_of older other ≡ None
  run_absent other = stays_absent (writes kinds.Runs other e) (run_written e (run_of older other)) (run_of older other)
      (λ x is gone. let none : Some (run_after e.moment e.act x) ≡ None = subst (λ (o : Option RunState). run_written e o ≡ None) is gone in cc (none))

  task_run_absent : (other : List ℕ) → task_run_of (e ∷ older) other ≡ None → task_run_of older other ≡ None
  task_run_absent other = stays_absent (writes kinds.TaskRuns other e) (task_run_written (run_of older) e (task_run_of older other)) (task_run_of older other)
      (λ x is gone. let none : Some (task_run_after e.moment e.act x) ≡ None = subst (λ (o : Option TaskRunState). task_run_written (run_of older) e o ≡ None) is gone in cc (none))

  pod_absent : (other : List ℕ) → pod_of (e ∷ older) other ≡ None → pod_of older other ≡ None
  pod_absent other = stays_absent (writes kinds.Pods other e) (pod_written e (pod_of older other)) (pod_of older other)
      (λ x is gone. let none : Some (pod_after e.actor e.act x) ≡ None = subst (λ (o : Option PodState). pod_written e o ≡ None) is gone in cc (none))

  run_kept : (other : List ℕ) → name_of e.act ≢ other → run_of (e ∷ older) other ≡ run_of older other
  run_kept other differ = ap (λ (b : Bool). cond b (run_written e (run_of older other)) (run_of older other)) (written_not kinds.Runs e other differ)

  task_run_kept : (other : List ℕ) → name_of e.act ≢ other → task_run_of (e ∷ older) other ≡ task_run_of older other
  task_run_kept other differ = ap (λ (b : Bool). cond b (task_run_written (run_of older) e (task_run_of older other)) (task_run_of older other)) (written_not kinds.TaskRuns e other differ)

  pod_kept : (other : List ℕ) → name_of e.act ≢ other → pod_of (e ∷ older) other ≡ pod_of older other
  pod_kept other differ = ap (λ (b : Bool). cond b (pod_written e (pod_of older other)) (pod_of older other)) (written_not kinds.Pods e other differ)

module _ (was now : Seen) (history : List Entry) (e : Entry) (shown : Shows was history) (shows : Shows now history) where
  -- of one kind, by what the histories at its two fronts say
  kept_but : {X : Type 0} (kind : Kind) (objects : View → List ℕ → Option X) (names : View → List (List ℕ)) (state : List Entry → List ℕ → Option X) (front : ℕ)
      → entry_at (front + 1) history ≡ Some e
      → objects was.view ≡ state (past front history) → objects now.view ≡ state (past (front + 1) history)
      → names was.view ≡ names_of kind (past front history) → names now.view ≡ names_of kind (past (front + 1) history)
      → ((older : List Entry) (other : List ℕ) → name_of e.act ≢ other → state (e ∷ older) other ≡ state older other)
      → ((older : List Entry) (other : List ℕ) → state (e ∷ older) other ≡ None → state older other ≡ None)
      → AreSameBut (name_of e.act) (objects was.view) (objects now.view) (names was.view) (names now.view)
  kept_but kind objects names state front at was_objects now_objects was_names now_names keeps goes = record {
    objects = λ other differ.
        ap (λ o. o other) now_objects ∙ ap (λ (h : List Entry). state h other) next ∙ keeps (past front history) other differ ∙ sym (ap (λ o. o other) was_objects);
    places = λ place other differ stands.
        ap (λ (ns : List (List ℕ)). slice_get ns place) was_names
        ∙ named_before (creates kind e.act) (names_of kind (past front history)) (name_of e.act) place other differ
        (ap (λ (h : List Entry). slice_get (names_of kind h) place) (sym next) ∙ ap (λ (ns : List (List ℕ)). slice_get ns place) (sym now_names) ∙ stands);
    absent = λ other gone.
        ap (λ o. o other) was_objects
        ∙ goes (past front history) other (ap (λ (h : List Entry). state h other) (sym next) ∙ sym (ap (λ o. o other) now_objects) ∙ gone);
  }
    where
      next : past (front + 1) history ≡ e ∷ past front history
      next = past_step front e history at

  pub same_but : (kind : Kind) → entry_at (front_of kind was.fronts + 1) history ≡ Some e → now.fronts ≡ with_front kind (front_of kind was.fronts + 1) was.fronts
      → AreSameButOf kind (name_of e.act) was.view now.view
  same_but kinds.Runs at moved =
      kept_but kinds.Runs (λ v. v.run) (λ v. v.runs) run_of was.fronts.runs at
      (seen_by was history shown (λ v. v.run)) (seen_by now history shows (λ v. v.run) ∙ ap (λ (f : Fronts). run_of (past f.runs history)) moved)
      (seen_by was history shown (λ v. v.runs)) (seen_by now history shows (λ v. v.runs) ∙ ap (λ (f : Fronts). names_of kinds.Runs (past f.runs history)) moved)
      (λ older. run_kept older e) (λ older. run_absent older e)
  same_but kinds.TaskRuns at moved =
      kept_but kinds.TaskRuns (λ v. v.task_run) (λ v. v.task_runs) task_run_of was.fronts.task_runs at
      (seen_by was history shown (λ v. v.task_run)) (seen_by now history shows (λ v. v.task_run) ∙ ap (λ (f : Fronts). task_run_of (past f.task_runs history)) moved)
      (seen_by was history shown (λ v. v.task_runs)) (seen_by now history shows (λ v. v.task_runs) ∙ ap (λ (f : Fronts). names_of kinds.TaskRuns (past f.task_runs history)) moved)
      (λ older. task_run_kept older e) (λ older. task_run_absent older e)
  same_but kinds.Pods at moved =
      kept_but kinds.Pods (λ v. v.pod) (λ v. v.pods) pod_of was.fronts.pods at
      (seen_by was history shown (λ v. v.pod)) (seen_by now history shows (λ v. v.pod) ∙ ap (λ (f : Fronts). pod_of (past f.pods history)) moved)
      (seen_by was history shown (λ v. v.pods)) (seen_by now history shows (λ v. v.pods) ∙ ap (λ (f : Fronts). names_of kinds.Pods (past f.pods history)) moved)
      (λ older. pod_kept older e) (λ older. pod_absent older e)
