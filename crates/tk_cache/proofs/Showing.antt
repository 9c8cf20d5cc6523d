-- What a cache shows, by the parts that it holds.
use Rattle.std.proofs.Common.{◌≡◌, ℕ, ◌≤◌, List, [], ◌∷◌, ◌++◌, length, Option, None, refl, sym, ap, ◌∙◌, subst, arith}
use Rattle.std.specs.declared.string.String.{String}
use Rattle.std.proofs.lemmas.List.{append-nil, length-append}
use Rattle.std.specs.Map.{keys_of}
use Rattle.indexmap.specs.IndexMap.{IndexMap, IsEmpty}
use Rattle.tk_types.specs.declared.scenario.Kind.{Kind}
use Rattle.tk_types.specs.declared.scenario.Kind.TheVariants as kinds
use Rattle.tk_journal.specs.declared.entry.Fronts.{Fronts}
use Rattle.tk_journal.specs.declared.entry.Entry.{Entry}
use Rattle.tk_journal.specs.declared.object.RunState.{RunState}
use Rattle.tk_journal.specs.declared.object.TaskRunState.{TaskRunState}
use Rattle.tk_journal.specs.declared.object.PodState.{PodState}
use Rattle.tk_journal.specs.Fronts.{AreWithin}
use Rattle.tk_journal.specs.History.{past, front_of, run_of, task_run_of, pod_of, view_at, version_of, names_of}
use Rattle.tk_journal.proofs.Past.{past_older}
use Rattle.tk_journal.proofs.Positions.{past_none}
use Rattle.tk_cache.specs.declared.objects.Held.{Held}
use Rattle.tk_cache.specs.Shown.{AreThose, AreRuns, AreTaskRuns, ArePods, Stand}
use Rattle.tk_cache.specs.Views.{Seen, seen, named, kept_of, object_in, versions_in}
use Rattle.tk_cache.specs.Fronts.{Shows}
use Rattle.tk_cache.proofs.Named.{object_named, version_named, names_named}

module _ {A S : Type 0} (fronts : Fronts) (runs beside : IndexMap (String A) (Held RunState) S) (task_runs : IndexMap (String A) (Held TaskRunState) S) (pods : IndexMap (String A) (Held PodState) S) (history : List Entry) where
  -- its parts from what is shown

  module _ (shows : Shows (seen (kept_of fronts runs beside task_runs pods)) history) where
    pub shown_runs : AreRuns (past fronts.runs history) runs
    shown_runs = record {
      objects = λ name. sym (object_named runs name) ∙ (λ i. (shows.same i).run name);
      versions = λ name. sym (version_named runs name) ∙ shows.versions_same kinds.Runs name;
      names = sym (names_named runs) ∙ (λ i. (shows.same i).runs);
    }

    pub shown_task_runs : AreTaskRuns (past fronts.task_runs history) task_runs
    shown_task_runs = record {
      objects = λ name. sym (object_named task_runs name) ∙ (λ i. (shows.same i).task_run name);
      versions = λ name. sym (version_named task_runs name) ∙ shows.versions_same kinds.TaskRuns name;
      names = sym (names_named task_runs) ∙ (λ i. (shows.same i).task_runs);
    }

    pub shown_pods : ArePods (past fronts.pods history) pods
    shown_pods = record {
      objects = λ name. sym (object_named pods name) ∙ (λ i. (shows.same i).pod name);
      versions = λ name. sym (version_named pods name) ∙ shows.versions_same kinds.Pods name;
      names = sym (names_named pods) ∙ (λ i. (shows.same i).pods);
    }

    pub shown_beside : Stand (run_of (past fronts.task_runs history)) beside
    shown_beside = λ name. sym (object_named beside name) ∙ shows.beside_same name

  -- and what is shown from its parts
  pub shown : AreWithin fronts history → AreRuns (past fronts.runs history) runs → Stand (run_of (past fronts.task_runs history)) beside → AreTaskRuns (past fronts.task_runs history) task_runs → ArePods (past fronts.pods history) pods
      → Shows (seen (kept_of fronts runs beside task_runs pods)) history
  shown within are_runs stand are_task_runs are_pods = record {
    within = within;
    same = same;
    versions_same = versions;
    beside_same = λ name. object_named beside name ∙ stand name;
  }
    where
      run : (name : List ℕ) → object_in (named runs) name ≡ run_of (past fronts.runs history) name
      run name = object_named runs name ∙ are_runs.objects name

      task_run : (name : List ℕ) → object_in (named task_runs) name ≡ task_run_of (past fronts.task_runs history) name
      task_run name = object_named task_runs name ∙ are_task_runs.objects name

      pod : (name : List ℕ) → object_in (named pods) name ≡ pod_of (past fronts.pods history) name
      pod name = object_named pods name ∙ are_pods.objects name

      run_names : keys_of (named runs) ≡ names_of kinds.Runs (past fronts.runs history)
      run_names = names_named runs ∙ are_runs.names

      task_run_names : keys_of (named task_runs) ≡ names_of kinds.TaskRuns (past fronts.task_runs history)
      task_run_names = names_named task_runs ∙ are_task_runs.names

      pod_names : keys_of (named pods) ≡ names_of kinds.Pods (past fronts.pods history)
      pod_names = names_named pods ∙ are_pods.names

      same : (seen (kept_of fronts runs beside task_runs pods)).view ≡ view_at fronts history
      same i = record {
        run = λ name. run name i;
        task_run = λ name. task_run name i;
        pod = λ name. pod name i;
        runs = run_names i;
        task_runs = task_run_names i;
        pods = pod_names i;
      }

      versions : (kind : Kind) (name : List ℕ) → versions_in (kept_of fronts runs beside task_runs pods) kind name ≡ version_of kind name (past (front_of kind fronts) history)
      versions kinds.Runs name = version_named runs name ∙ are_runs.versions name
      versions kinds.TaskRuns name = version_named task_runs name ∙ are_task_runs.versions name
      versions kinds.Pods name = version_named pods name ∙ are_pods.versions name

-- the objects of an empty map are those of an empty history
pub are_none : {A T S : Type 0} (kind : Kind) (state : List ℕ → Option T) (m : IndexMap (String A) (Held T) S) → ((name : List ℕ) → state name ≡ None) → IsEmpty m → AreThose kind state [] m
are_none kind state m none empty = record {
  objects = λ name. (rw empty refl) ∙ sym (none name);
  versions = λ name. rw empty refl;
  names = rw empty refl;
}

-- what is shown once one kind is at another position

module _ {A S : Type 0} (fronts : Fronts) (runs beside : IndexMap (String A) (Held RunState) S) (task_runs : IndexMap (String A) (Held TaskRunState) S) (pods : IndexMap (String A) (Held PodState) S) (history : List Entry)
    (shows : Shows (seen (kept_of fronts runs beside task_runs pods)) history) (to : ℕ) where
  pub with_runs : (new : IndexMap (String A) (Held RunState) S) → to ≤ length history → AreRuns (past to history) new → Shows (seen (kept_of (record fronts { runs = to }) new beside task_runs pods)) history
  with_runs new within are = shown (record fronts { runs = to }) new beside task_runs pods history
      (record { runs = within; task_runs = shows.within.task_runs; pods = shows.within.pods }) are (shown_beside fronts runs beside task_runs pods history shows)
      (shown_task_runs fronts runs beside task_runs pods history shows) (shown_pods fronts runs beside task_runs pods history shows)

  pub with_task_runs : (new : IndexMap (String A) (Held RunState) S) (others : IndexMap (String A) (Held TaskRunState) S) → to ≤ length history → Stand (run_of (past to history)) new → AreTaskRuns (past to history) others
      → Shows (seen (kept_of (record fronts { task_runs = to }) runs new others pods)) history
  with_task_runs new others within stand are = shown (record fronts { task_runs = to }) runs new others pods history
      (record { runs = shows.within.runs; task_runs = within; pods = shows.within.pods }) (shown_runs fronts runs beside task_runs pods history shows) stand are (shown_pods fronts runs beside task_runs pods history shows)

  pub with_pods : (new : IndexMap (String A) (Held PodState) S) → to ≤ length history → ArePods (past to history) new → Shows (seen (kept_of (record fronts { pods = to }) runs beside task_runs new)) history
  with_pods new within are = shown (record fronts { pods = to }) runs beside task_runs new history
      (record { runs = shows.within.runs; task_runs = shows.within.task_runs; pods = within }) (shown_runs fronts runs beside task_runs pods history shows) (shown_beside fronts runs beside task_runs pods history shows)
      (shown_task_runs fronts runs beside task_runs pods history shows) are

-- before the first entry, the objects are those of an empty map

module _ {A S : Type 0} (history : List Entry) where
  pub no_runs : (m : IndexMap (String A) (Held RunState) S) → IsEmpty m → AreRuns (past 0 history) m
  no_runs m empty = subst (λ (h : List Entry). AreRuns h m) (sym (past_none history)) (are_none kinds.Runs (run_of []) m (λ name. refl) empty)

  pub no_task_runs : (m : IndexMap (String A) (Held TaskRunState) S) → IsEmpty m → AreTaskRuns (past 0 history) m
  no_task_runs m empty = subst (λ (h : List Entry). AreTaskRuns h m) (sym (past_none history)) (are_none kinds.TaskRuns (task_run_of []) m (λ name. refl) empty)

  pub no_pods : (m : IndexMap (String A) (Held PodState) S) → IsEmpty m → ArePods (past 0 history) m
  no_pods m empty = subst (λ (h : List Entry). ArePods h m) (sym (past_none history)) (are_none kinds.Pods (pod_of []) m (λ name. refl) empty)

-- a front within a history stands before the same entries once that has grown

front_within : (kind : Kind) (fronts : Fronts) (history : List Entry) → AreWithin fronts history → front_of kind fronts ≤ length history
front_within kinds.Runs fronts history within = within.runs
front_within kinds.TaskRuns fronts history within = within.task_runs
front_within kinds.Pods fronts history within = within.pods

longer : (newer history : List Entry) → length history ≤ length (newer ++ history)
longer newer history = let sum = length-append newer history in omega (arith, sum)

past_grown : (n : ℕ) (newer history : List Entry) → n ≤ length history → past n (newer ++ history) ≡ past n history
past_grown n [] history le = refl
past_grown n (e ∷ newer) history le =
    let more = longer newer history in
    past_older n e (newer ++ history) (omega (arith, le, more)) ∙ past_grown n newer history le

pub shows_grown : (was : Seen) (newer history : List Entry) → Shows was history → Shows was (newer ++ history)
shows_grown was newer history shows = record {
  within = record {
    runs = let le = shows.within.runs in let more = longer newer history in omega (arith, le, more);
    task_runs = let le = shows.within.task_runs in let more = longer newer history in omega (arith, le, more);
    pods = let le = shows.within.pods in let more = longer newer history in omega (arith, le, more);
  };
  same = shows.same ∙ view_same;
  versions_same = λ kind name. shows.versions_same kind name ∙ ap (version_of kind name) (part kind);
  beside_same = λ name. shows.beside_same name ∙ ap (λ (h : List Entry). run_of h name) (part kinds.TaskRuns);
}
  where
    part : (kind : Kind) → past (front_of kind was.fronts) history ≡ past (front_of kind was.fronts) (newer ++ history)
    part kind = sym (past_grown (front_of kind was.fronts) newer history (front_within kind was.fronts history shows.within))

    view_same : view_at was.fronts history ≡ view_at was.fronts (newer ++ history)
    view_same i = record {
      run = run_of (part kinds.Runs i);
      task_run = task_run_of (part kinds.TaskRuns i);
      pod = pod_of (part kinds.Pods i);
      runs = names_of kinds.Runs (part kinds.Runs i);
      task_runs = names_of kinds.TaskRuns (part kinds.TaskRuns i);
      pods = names_of kinds.Pods (part kinds.Pods i);
    }

pub shows_none : (was : Seen) (history : List Entry) → Shows was [] → Shows was history
shows_none was history shows = subst (Shows was) (append-nil history) (shows_grown was history [] shows)
