-- What is kept of runs, once a cache has passed an entry.
use Rattle.std.proofs.Common.{◌≡◌, ℕ, ◌+◌, List, [], Option, Some, None, true, false, refl, sym, ◌∙◌, ap, ap₂, subst}
use Rattle.std.specs.Prelude.{◌&&◌, bytes_eq, is_none, if◌then◌else◌}
use Rattle.std.specs.declared.string.String.{String}
use Rattle.indexmap.specs.IndexMap.{IndexMap, IsEmpty, get_by_text}
use Rattle.tk_types.specs.declared.scenario.Kind.TheVariants as kinds
use Rattle.tk_journal.specs.declared.entry.Entry.{Entry}
use Rattle.tk_journal.specs.declared.entry.Fronts.{Fronts}
use Rattle.tk_journal.specs.declared.object.TaskRunState.{TaskRunState}
use Rattle.tk_journal.specs.Effects.{name_of, kind_of, same_kind}
use Rattle.tk_journal.specs.History.{View, past, names_of, task_run_of, outcome_of}
use Rattle.tk_journal.specs.Journal.{entry_at}
use Rattle.tk_journal.specs.Legal.{IsLegal}
use Rattle.tk_journal.proofs.Positions.{past_none, past_step}
use Rattle.tk_cache.specs.Fronts.{Shows, with_front}
use Rattle.tk_cache.specs.Views.{Seen}
use Rattle.tk_cache.specs.Written.{names_after}
use Rattle.tk_cache.proofs.Passed.{same_of}
use Rattle.tk_run_cache.specs.Follow.{ChangesAt, MayFollow, MayHaveTaskRun, standing_after, standing_with}
use Rattle.tk_run_cache.specs.Labelled.{AreLabelled, Standing, kept_names, standing_seen}
use Rattle.tk_run_cache.proofs.Ended.{known_kept, known_absent, known_ended, may_end as may_end_at}
use Rattle.tk_run_cache.proofs.Standings.{known, known_none, seen_known}
use Rattle.tk_run_cache.proofs.Written.{may_follow, runs_known}

task_runs_of : (seen : Seen) (history : List Entry) → Shows seen history → seen.view.task_run ≡ task_run_of (past seen.fronts.task_runs history)
task_runs_of seen history shows = ap (λ (v : View). v.task_run) shows.same

runs_of : (seen : Seen) (history : List Entry) → Shows seen history → seen.view.runs ≡ names_of kinds.Runs (past seen.fronts.runs history)
runs_of seen history shows = ap (λ (v : View). v.runs) shows.same

-- with no run seen, nothing is kept
pub none_labelled : {A S : Type 0} (seen : Seen) (history : List Entry) → Shows seen history → seen.fronts.runs ≡ 0 → (m : IndexMap (String A) Standing S) → IsEmpty m → AreLabelled seen.view m
none_labelled seen history shows first m empty = record { standing = none_stands; names = none_named }
  where
    none_stands : (name : List ℕ) → get_by_text m name ≡ standing_seen seen.view name
    none_stands name =
        let none : get_by_text m name ≡ None = rw empty refl in
        none ∙ sym (seen_known seen history shows name ∙ (ap (λ (r : ℕ). known r seen.fronts.task_runs history name) first ∙ known_none seen.fronts.task_runs history name))

    none_named : kept_names m ≡ seen.view.runs
    none_named =
        let none : kept_names m ≡ [] = rw empty refl in
        let start : past seen.fronts.runs history ≡ [] = ap (λ (r : ℕ). past r history) first ∙ past_none history in
        none ∙ sym (runs_of seen history shows ∙ ap (names_of kinds.Runs) start)

-- how runs stand, pods don't say
pub pods_listed : {A S : Type 0} (was now : Seen) (history : List Entry) (position : ℕ) → Shows was history → Shows now history → (m : IndexMap (String A) Standing S) → AreLabelled was.view m
    → now.fronts ≡ with_front kinds.Pods position was.fronts → AreLabelled now.view m
pods_listed was now history position shown shows m before fronts = record {
  standing = λ name. before.standing name ∙ seen_known was history shown name
      ∙ (sym (ap (λ (f : Fronts). known f.runs f.task_runs history name) fronts) ∙ sym (seen_known now history shows name));
  names = before.names ∙ sym (same_of was now history shown shows kinds.Runs (ap (λ (f : Fronts). f.runs) fronts)).names;
}

module _ {A S : Type 0} (was now : Seen) (history : List Entry) (legal : IsLegal history) (place : ℕ) (e : Entry) (at : entry_at (place + 1) history ≡ Some e)
    (shown : Shows was history) (shows : Shows now history) (m : IndexMap (String A) Standing S) (before : AreLabelled was.view m) where
  module _ (here : was.fronts.runs ≡ place) where
    run_before : (name : List ℕ) → get_by_text m name ≡ known place was.fronts.task_runs history name
    run_before name = before.standing name ∙ (seen_known was history shown name ∙ ap (λ (r : ℕ). known r was.fronts.task_runs history name) here)

    pub may_pass_run : MayFollow e.act (get_by_text m (name_of e.act))
    may_pass_run = subst (MayFollow e.act) (sym (run_before (name_of e.act))) (may_follow history legal place e at was.fronts.task_runs)

    module _ (fronts : now.fronts ≡ with_front kinds.Runs (place + 1) was.fronts) (n : IndexMap (String A) Standing S) where
      run_after : ChangesAt (name_of e.act) (standing_after now.view.task_run e.act) m n → (name : List ℕ) → get_by_text n name ≡ standing_seen now.view name
      run_after changes name =
          changes name
          ∙ ap₂ (λ (t : List ℕ → Option TaskRunState) (o : Option Standing). if bytes_eq (name_of e.act) name then standing_after t e.act o else o)
          (task_runs_of now history shows ∙ ap (λ (f : Fronts). task_run_of (past f.task_runs history)) fronts) (run_before name)
          ∙ runs_known history legal place e at was.fronts.task_runs name
          ∙ sym (seen_known now history shows name ∙ ap (λ (f : Fronts). known f.runs f.task_runs history name) fronts)

      -- the names that are seen
      names_now : now.view.runs ≡ names_after kinds.Runs e.act was.view.runs
      names_now =
          runs_of now history shows
          ∙ ap (λ (f : Fronts). names_of kinds.Runs (past f.runs history)) fronts
          ∙ ap (names_of kinds.Runs) (past_step place e history at)
          ∙ ap (names_after kinds.Runs e.act) (sym (runs_of was history shown ∙ ap (λ (r : ℕ). names_of kinds.Runs (past r history)) here))

      pub passed_run : ChangesAt (name_of e.act) (standing_after now.view.task_run e.act) m n → kept_names n ≡ names_after kinds.Runs e.act (kept_names m) → AreLabelled now.view n
      passed_run changes names = record {
        standing = run_after changes;
        names = names ∙ ap (names_after kinds.Runs e.act) before.names ∙ sym names_now;
      }

  module _ (here : was.fronts.task_runs ≡ place) where
    task_run_before : (name : List ℕ) → get_by_text m name ≡ known was.fronts.runs place history name
    task_run_before name = before.standing name ∙ (seen_known was history shown name ∙ ap (λ (t : ℕ). known was.fronts.runs t history name) here)

    task_runs_before : was.view.task_run ≡ task_run_of (past place history)
    task_runs_before = task_runs_of was history shown ∙ ap (λ (t : ℕ). task_run_of (past t history)) here

    module _ (fronts : now.fronts ≡ with_front kinds.TaskRuns (place + 1) was.fronts) where
      task_run_after : (name : List ℕ) → known was.fronts.runs (place + 1) history name ≡ standing_seen now.view name
      task_run_after name = sym (seen_known now history shows name ∙ ap (λ (f : Fronts). known f.runs f.task_runs history name) fronts)

      task_runs_after : now.view.task_run ≡ task_run_of (past (place + 1) history)
      task_runs_after = task_runs_of now history shows ∙ ap (λ (f : Fronts). task_run_of (past f.task_runs history)) fronts

      names_after_task_run : now.view.runs ≡ was.view.runs
      names_after_task_run = (same_of was now history shown shows kinds.Runs (ap (λ (f : Fronts). f.runs) fronts)).names

      -- the entry ends no child
      pub passed_other : (same_kind kinds.TaskRuns (kind_of e.act) && is_none (outcome_of (was.view.task_run (name_of e.act)))) ≡ false → AreLabelled now.view m
      passed_other stays = record {
        standing = λ name.
            task_run_before name
            ∙ known_kept history legal place e at was.fronts.runs (subst (λ (t : List ℕ → Option TaskRunState). (same_kind kinds.TaskRuns (kind_of e.act) && is_none (outcome_of (t (name_of e.act)))) ≡ false) task_runs_before stays) name
            ∙ task_run_after name;
        names = before.names ∙ sym names_after_task_run;
      }

      pub passed_absent : now.view.task_run (name_of e.act) ≡ None → AreLabelled now.view m
      passed_absent gone = record {
        standing = λ name.
            task_run_before name
            ∙ known_absent history legal place e at was.fronts.runs (sym (ap (λ (t : List ℕ → Option TaskRunState). t (name_of e.act)) task_runs_after) ∙ gone) name
            ∙ task_run_after name;
        names = before.names ∙ sym names_after_task_run;
      }

      module _ (may_end : (same_kind kinds.TaskRuns (kind_of e.act) && is_none (outcome_of (was.view.task_run (name_of e.act)))) ≡ true)
          (t : TaskRunState) (there : now.view.task_run (name_of e.act) ≡ Some t) where
        could : (same_kind kinds.TaskRuns (kind_of e.act) && is_none (outcome_of (task_run_of (past place history) (name_of e.act)))) ≡ true
        could = subst (λ (s : List ℕ → Option TaskRunState). (same_kind kinds.TaskRuns (kind_of e.act) && is_none (outcome_of (s (name_of e.act)))) ≡ true) task_runs_before may_end

        found : task_run_of (past (place + 1) history) (name_of e.act) ≡ Some t
        found = sym (ap (λ (s : List ℕ → Option TaskRunState). s (name_of e.act)) task_runs_after) ∙ there

        pub may_pass_task_run : MayHaveTaskRun t m
        may_pass_task_run = may_end_at history legal place e at was.fronts.runs could t found m task_run_before

        pub passed_task_run : (n : IndexMap (String A) Standing S) → ((name : List ℕ) → get_by_text n name ≡ standing_with t name (get_by_text m name)) → kept_names n ≡ kept_names m → AreLabelled now.view n
        passed_task_run n ends names = record {
          standing = λ name.
              ends name
              ∙ ap (standing_with t name) (task_run_before name)
              ∙ known_ended history legal place e at was.fronts.runs could t found name
              ∙ task_run_after name;
          names = names ∙ before.names ∙ sym names_after_task_run;
        }
