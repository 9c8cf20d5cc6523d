-- What the reasons ask of an entry behind a legal history is what legality asks.
use Rattle.std.proofs.Common.{◌≡◌, ◌≢◌, ℕ, suc, ◌<◌, ◌≤◌, List, [], ◌∷◌, ◌++◌, length, Option, Some, None, Bool, true, false, All, AllPairs, refl, sym, subst, ap, ◌∙◌, arith}
use Rattle.tk_types.specs.declared.scenario.Kind.{Kind}
use Rattle.tk_types.specs.declared.scenario.Kind.TheVariants as kinds
use Rattle.tk_journal.specs.declared.act.Act.{Act}
use Rattle.tk_journal.specs.declared.act.Act.TheVariants as acts
use Rattle.tk_journal.specs.declared.entry.Entry.{Entry}
use Rattle.tk_journal.specs.Effects.{name_of, kind_of, is_create, run_made, task_run_made, pod_made}
use Rattle.tk_journal.specs.Fronts.{AreWithin}
use Rattle.tk_journal.specs.History.{run_of, task_run_of, pod_of, view_at, creates}
use Rattle.tk_journal.specs.Legal.{is_admit, IsFree, IsCurrent, IsWritable, IsLegal, IsStep, Fits, all_compared, compared_names}
use Rattle.tk_journal.specs.Lists.{IsThere}
use Rattle.tk_journal.specs.Made.{MakesOrChanges, Writes}
use Rattle.tk_journal.specs.Rows.{IsJustified}
use Rattle.tk_journal.specs.Sound.{IsSound}
use Rattle.tk_journal.proofs.Apart.{compared_apart}
use Rattle.tk_journal.proofs.Made.{writes}
use Rattle.tk_audit.specs.declared.why.Why.{Why}
use Rattle.tk_audit.specs.declared.why.Why.TheVariants as whys
use Rattle.tk_audit.specs.Audit.{ComesInTime, AreNew, IsSoundAct, IsSoundIn, IsPresent, FindsFree, FindsPresent, FindsCurrent, AreAtEnd, HasRow, Keeps}
use Rattle.tk_audit.proofs.Names.{Differ, joined, parted}

-- from the reasons to a step

module _ (older : List Entry) (e : Entry) where
  fits : AllPairs Differ (all_compared older) → (act : Act) → e.act ≡ act → ComesInTime older act → IsSoundAct older e act → HasRow older e act → Fits older e act
  fits apart (acts.Admit name spec pending asked root) is late sound row =
      (late, sound.sound, joined (all_compared older) (compared_names e.act) apart sound.names)
  fits apart (acts.Ask name status) is late sound row = (row.0.runs, row.0.task_runs, row.0.pods)
  fits apart (acts.Start name) is late sound row = late
  fits apart (acts.Schedule name task bindings) is late sound row = late
  fits apart (acts.MakeTaskRun name run task index mark) is late sound row = late
  fits apart (acts.Halt name stop) is late sound row = late
  fits apart (acts.CancelTaskRun name) is late sound row = late
  fits apart (acts.OpenAttempt name) is late sound row = late
  fits apart (acts.MakePod name task_run attempt plan mark) is late sound row = late
  fits apart (acts.ClaimPod name) is late sound row = late
  fits apart (acts.EndPod name exits outcome) is late sound row = late
  fits apart (acts.Close name closing) is late sound row = late

  justified : (act : Act) → IsSoundAct older e act → HasRow older e act → IsJustified (view_at e.fronts older) e.actor e.moment act
  justified (acts.Admit name spec pending asked root) sound row = sound.by
  justified (acts.Ask name status) sound row = row.1
  justified (acts.Start name) sound row = row
  justified (acts.Schedule name task bindings) sound row = row
  justified (acts.MakeTaskRun name run task index mark) sound row = row
  justified (acts.Halt name stop) sound row = row
  justified (acts.CancelTaskRun name) sound row = row
  justified (acts.OpenAttempt name) sound row = row
  justified (acts.MakePod name task_run attempt plan mark) sound row = row
  justified (acts.ClaimPod name) sound row = row
  justified (acts.EndPod name exits outcome) sound row = row
  justified (acts.Close name closing) sound row = row

  writable : (create : Bool) (kind : Kind) (name : List ℕ) → FindsFree create kind name older → FindsCurrent create kind name e.fronts older → IsWritable create kind name e.fronts older
  writable true kind name free current = free
  writable false kind name free current = current

  pub step_of : IsLegal older → ((why : Why) → Keeps why older e) → IsStep older e
  step_of legal keeps = record {
    runs_front = (keeps whys.Front).runs;
    task_runs_front = (keeps whys.Front).task_runs;
    pods_front = (keeps whys.Front).pods;
    fits = fits (compared_apart older legal) e.act refl (keeps whys.Late) (keeps whys.Unsound) (keeps whys.Row);
    justified = justified e.act (keeps whys.Unsound) (keeps whys.Row);
    writable = writable (is_create e.act) (kind_of e.act) (name_of e.act) (keeps whys.Taken) (keeps whys.Moved);
  }

  -- from a step to the reasons

  in_time : (act : Act) → Fits older e act → ComesInTime older act
  in_time (acts.Admit name spec pending asked root) f = f.0
  in_time (acts.Ask name status) f = tt
  in_time (acts.Start name) f = f
  in_time (acts.Schedule name task bindings) f = f
  in_time (acts.MakeTaskRun name run task index mark) f = f
  in_time (acts.Halt name stop) f = f
  in_time (acts.CancelTaskRun name) f = f
  in_time (acts.OpenAttempt name) f = f
  in_time (acts.MakePod name task_run attempt plan mark) f = f
  in_time (acts.ClaimPod name) f = f
  in_time (acts.EndPod name exits outcome) f = f
  in_time (acts.Close name closing) f = f

  sound : (act : Act) → Fits older e act → IsJustified (view_at e.fronts older) e.actor e.moment act → IsSoundAct older e act
  sound (acts.Admit name spec pending asked root) f just = record { by = just; sound = f.1; names = parted (all_compared older) (compared_names e.act) f.2 }
  sound (acts.Ask name status) f just = tt
  sound (acts.Start name) f just = f
  sound (acts.Schedule name task bindings) f just = f
  sound (acts.MakeTaskRun name run task index mark) f just = f
  sound (acts.Halt name stop) f just = f
  sound (acts.CancelTaskRun name) f just = f
  sound (acts.OpenAttempt name) f just = f
  sound (acts.MakePod name task_run attempt plan mark) f just = f
  sound (acts.ClaimPod name) f just = f
  sound (acts.EndPod name exits outcome) f just = f
  sound (acts.Close name closing) f just = f

  row : (act : Act) → Fits older e act → IsJustified (view_at e.fronts older) e.actor e.moment act → HasRow older e act
  row (acts.Admit name spec pending asked root) f just = tt
  row (acts.Ask name status) f just = (record { runs = f.0; task_runs = f.1; pods = f.2 }, just)
  row (acts.Start name) f just = just
  row (acts.Schedule name task bindings) f just = just
  row (acts.MakeTaskRun name run task index mark) f just = just
  row (acts.Halt name stop) f just = just
  row (acts.CancelTaskRun name) f just = just
  row (acts.OpenAttempt name) f just = just
  row (acts.MakePod name task_run attempt plan mark) f just = just
  row (acts.ClaimPod name) f just = just
  row (acts.EndPod name exits outcome) f just = just
  row (acts.Close name closing) f just = just

  free : (create : Bool) (kind : Kind) (name : List ℕ) → IsWritable create kind name e.fronts older → FindsFree create kind name older
  free true kind name w = w
  free false kind name w = tt

  current : (create : Bool) (kind : Kind) (name : List ℕ) → IsWritable create kind name e.fronts older → FindsCurrent create kind name e.fronts older
  current true kind name w = tt
  current false kind name w = w

  -- what makes an object of a kind is a create
  is_made : (kind : Kind) (act : Act) → is_create act ≡ false → creates kind act ≡ false
  is_made kinds.Runs act never = no_run act never
    where
      no_run : (act : Act) → is_create act ≡ false → creates kinds.Runs act ≡ false
      no_run (acts.Admit name spec pending asked root) is = cc
      no_run act is = refl
  is_made kinds.TaskRuns act never = no_task_run act never
    where
      no_task_run : (act : Act) → is_create act ≡ false → creates kinds.TaskRuns act ≡ false
      no_task_run (acts.Admit name spec pending asked root) is = cc
      no_task_run (acts.MakeTaskRun name run task index mark) is = cc
      no_task_run act is = refl
  is_made kinds.Pods act never = no_pod act never
    where
      no_pod : (act : Act) → is_create act ≡ false → creates kinds.Pods act ≡ false
      no_pod (acts.MakePod name task_run attempt plan mark) is = cc
      no_pod act is = refl

  there : {X : Type 0} (kind : Kind) (made o : Option X) → MakesOrChanges kind e made o → creates kind e.act ≡ false → IsThere o
  there kind made None (some, does) never = cc
  there kind made (Some x) changes never = (x, refl)

  of_kind : Writes older e → (kind : Kind) → kind_of e.act ≡ kind → is_create e.act ≡ false → IsPresent kind (name_of e.act) older
  of_kind w kinds.Runs is never = there kinds.Runs (run_made e.act) _ (w.runs is) (is_made kinds.Runs e.act never)
  of_kind w kinds.TaskRuns is never = there kinds.TaskRuns (task_run_made (run_of older) e.act) _ (w.task_runs is) (is_made kinds.TaskRuns e.act never)
  of_kind w kinds.Pods is never = there kinds.Pods (pod_made e.act) _ (w.pods is) (is_made kinds.Pods e.act never)

  present : Writes older e → (create : Bool) → is_create e.act ≡ create → FindsPresent create (kind_of e.act) (name_of e.act) older
  present w true is = tt
  present w false is = of_kind w (kind_of e.act) refl is

  pub keeps_of : IsLegal older → IsStep older e → (why : Why) → Keeps why older e
  keeps_of legal step whys.Late = in_time e.act step.fits
  keeps_of legal step whys.Front = record { runs = step.runs_front; task_runs = step.task_runs_front; pods = step.pods_front }
  keeps_of legal step whys.Unsound = sound e.act step.fits step.justified
  keeps_of legal step whys.Taken = free (is_create e.act) (kind_of e.act) (name_of e.act) step.writable
  keeps_of legal step whys.Absent = present (writes older e (legal, step)) (is_create e.act) refl
  keeps_of legal step whys.Moved = current (is_create e.act) (kind_of e.act) (name_of e.act) step.writable
  keeps_of legal step whys.Row = row e.act step.fits step.justified
