-- The places of the runs that can still get an entry, once a front has gone one position further.
use Rattle.std.proofs.Common.{◌≡◌, ◌+◌, ℕ, List, Some, None, ap, sym, subst}
use Rattle.tk_types.specs.declared.scenario.Kind.TheVariants as kinds
use Rattle.tk_journal.specs.declared.entry.Entry.{Entry}
use Rattle.tk_journal.specs.declared.entry.Fronts.{Fronts}
use Rattle.tk_journal.specs.declared.object.TaskRunState.{TaskRunState}
use Rattle.tk_journal.specs.Journal.{entry_at}
use Rattle.tk_journal.specs.Effects.{name_of}
use Rattle.tk_cache.specs.Fronts.{Shows, with_front}
use Rattle.tk_cache.specs.Passed.{AreSame, AreSameBut}
use Rattle.tk_cache.specs.Views.{Kept, seen}
use Rattle.tk_cache.proofs.Passed.{same_but, same_of}
use Rattle.tk_run_cache.specs.Active.{AreActive, IsJudged}
use Rattle.tk_run_cache.proofs.Activity.{passed_no_task_run, passed_pod, passed_run, passed_standalone, passed_task_run}

module _ (was now : Kept) (history : List Entry) (shown : Shows (seen was) history) (shows : Shows (seen now) history) (places : List ℕ) (active : AreActive (seen was).view places) where
  -- pods at any position
  pub pods_active : (position : ℕ) → now.fronts ≡ with_front kinds.Pods position was.fronts → AreActive (seen now).view places
  pods_active position moved =
      passed_pod (seen was).view (seen now).view places active
      (same_of (seen was) (seen now) history shown shows kinds.Runs (ap (λ (f : Fronts). f.runs) moved))
      (same_of (seen was) (seen now) history shown shows kinds.TaskRuns (ap (λ (f : Fronts). f.task_runs) moved))

  module _ (place : ℕ) (e : Entry) (at : entry_at (place + 1) history ≡ Some e) where
    -- an entry of runs
    pub run_active : was.fronts.runs ≡ place → now.fronts ≡ with_front kinds.Runs (place + 1) was.fronts → (new : List ℕ) → IsJudged (seen now).view (name_of e.act) places new → AreActive (seen now).view new
    run_active here moved new =
        passed_run (seen was).view (seen now).view (name_of e.act) places new active
        (same_but (seen was) (seen now) history e shown shows kinds.Runs
        (subst (λ (n : ℕ). entry_at (n + 1) history ≡ Some e) (sym here) at)
        (subst (λ (n : ℕ). now.fronts ≡ with_front kinds.Runs (n + 1) was.fronts) (sym here) moved))
        (same_of (seen was) (seen now) history shown shows kinds.TaskRuns (ap (λ (f : Fronts). f.task_runs) moved))

    -- an entry of TaskRuns
    module _ (here : was.fronts.task_runs ≡ place) (moved : now.fronts ≡ with_front kinds.TaskRuns (place + 1) was.fronts) where
      runs : AreSame (seen was).view.run (seen now).view.run (seen was).view.runs (seen now).view.runs
      runs = same_of (seen was) (seen now) history shown shows kinds.Runs (ap (λ (f : Fronts). f.runs) moved)

      others : AreSameBut (name_of e.act) (seen was).view.task_run (seen now).view.task_run (seen was).view.task_runs (seen now).view.task_runs
      others =
          same_but (seen was) (seen now) history e shown shows kinds.TaskRuns
          (subst (λ (n : ℕ). entry_at (n + 1) history ≡ Some e) (sym here) at)
          (subst (λ (n : ℕ). now.fronts ≡ with_front kinds.TaskRuns (n + 1) was.fronts) (sym here) moved)

      pub no_task_run_active : (seen now).view.task_run (name_of e.act) ≡ None → AreActive (seen now).view places
      no_task_run_active = passed_no_task_run (seen was).view (seen now).view places active runs (name_of e.act) others

      module _ (task_run : TaskRunState) (is : (seen now).view.task_run (name_of e.act) ≡ Some task_run) where
        pub standalone_active : task_run.run ≡ None → AreActive (seen now).view places
        standalone_active = passed_standalone (seen was).view (seen now).view places active runs (name_of e.act) others task_run is

        pub task_run_active : (run : List ℕ) → task_run.run ≡ Some run → (new : List ℕ) → IsJudged (seen now).view run places new → AreActive (seen now).view new
        task_run_active = passed_task_run (seen was).view (seen now).view places active runs (name_of e.act) others task_run is
