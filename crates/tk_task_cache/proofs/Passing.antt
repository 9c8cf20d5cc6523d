-- The queue, once a front has gone one position further.
use Rattle.std.proofs.Common.{◌≡◌, ◌+◌, ℕ, List, Some, None, ap, sym, subst}
use Rattle.tk_types.specs.declared.scenario.Kind.TheVariants as kinds
use Rattle.tk_journal.specs.declared.entry.Entry.{Entry}
use Rattle.tk_journal.specs.declared.entry.Fronts.{Fronts}
use Rattle.tk_journal.specs.declared.object.PodState.{PodState}
use Rattle.tk_journal.specs.Journal.{entry_at}
use Rattle.tk_journal.specs.Effects.{name_of}
use Rattle.tk_journal.specs.Legal.{IsLegal}
use Rattle.tk_cache.specs.Fronts.{Shows, with_front}
use Rattle.tk_cache.specs.Passed.{AreSameBut}
use Rattle.tk_cache.specs.Views.{Kept, seen}
use Rattle.tk_cache.proofs.Passed.{same_but, same_of}
use Rattle.tk_task_cache.specs.Acting.{AreQueued, AreFew, IsJudged}
use Rattle.tk_task_cache.proofs.Queue.{few_seen, named_seen, passed_no_pod, passed_pod, passed_task_run}

module _ (was now : Kept) (history : List Entry) (legal : IsLegal history) (place : ℕ) (e : Entry) (at : entry_at (place + 1) history ≡ Some e)
    (shown : Shows (seen was) history) (shows : Shows (seen now) history) (queue : List ℕ) (queued : AreQueued (seen was).view queue) where
  pub few : AreFew (seen now).view
  few = few_seen (seen now) history legal shows

  module _ (here : was.fronts.task_runs ≡ place) (moved : now.fronts ≡ with_front kinds.TaskRuns (place + 1) was.fronts) where
    pub task_run_queued : (new : List ℕ) → IsJudged (seen now).view (name_of e.act) queue new → AreQueued (seen now).view new
    task_run_queued new =
        passed_task_run (seen was).view (seen now).view (name_of e.act) queue new queued
        (same_but (seen was) (seen now) history e shown shows kinds.TaskRuns
        (subst (λ (n : ℕ). entry_at (n + 1) history ≡ Some e) (sym here) at)
        (subst (λ (n : ℕ). now.fronts ≡ with_front kinds.TaskRuns (n + 1) was.fronts) (sym here) moved))
        (same_of (seen was) (seen now) history shown shows kinds.Pods (ap (λ (f : Fronts). f.pods) moved))

  module _ (here : was.fronts.pods ≡ place) (moved : now.fronts ≡ with_front kinds.Pods (place + 1) was.fronts) where
    others : AreSameBut (name_of e.act) (seen was).view.pod (seen now).view.pod (seen was).view.pods (seen now).view.pods
    others =
        same_but (seen was) (seen now) history e shown shows kinds.Pods
        (subst (λ (n : ℕ). entry_at (n + 1) history ≡ Some e) (sym here) at)
        (subst (λ (n : ℕ). now.fronts ≡ with_front kinds.Pods (n + 1) was.fronts) (sym here) moved)

    pub no_pod_queued : (seen now).view.pod (name_of e.act) ≡ None → AreQueued (seen now).view queue
    no_pod_queued gone =
        passed_no_pod (seen was).view (seen now).view (name_of e.act) queue queued
        (same_of (seen was) (seen now) history shown shows kinds.TaskRuns (ap (λ (f : Fronts). f.task_runs) moved)) others gone

    pub pod_queued : (pod : PodState) → (seen now).view.pod (name_of e.act) ≡ Some pod → (new : List ℕ) → IsJudged (seen now).view pod.task_run queue new → AreQueued (seen now).view new
    pod_queued pod is =
        passed_pod (seen was).view (seen now).view (name_of e.act) queue queued
        (same_of (seen was) (seen now) history shown shows kinds.TaskRuns (ap (λ (f : Fronts). f.task_runs) moved)) others
        pod (named_seen (seen now) history legal shows (name_of e.act) pod is) few
