-- The row of an entry holds of the object that it writes as that stands now, since its version hasn't moved since the front.
use Rattle.std.proofs.Common.{◌≡◌, ℕ, List, Option, Some, None, false, refl, sym, ◌∙◌, subst}
use Rattle.std.proofs.lemmas.Option.{same_Some}
use Rattle.tk_types.specs.declared.scenario.Kind.TheVariants as kinds
use Rattle.tk_journal.specs.declared.entry.Fronts.{Fronts}
use Rattle.tk_journal.specs.declared.entry.Actor.{Actor}
use Rattle.tk_types.specs.declared.object.Asked.TheVariants as asks
use Rattle.tk_journal.specs.declared.act.Admission.TheVariants as admissions
use Rattle.tk_journal.specs.declared.act.Closing.TheVariants as closings
use Rattle.tk_journal.specs.declared.act.Act.{Act}
use Rattle.tk_journal.specs.declared.act.Act.TheVariants as acts
use Rattle.tk_journal.specs.declared.entry.Entry.{Entry}
use Rattle.tk_journal.specs.declared.object.RunState.{RunState}
use Rattle.tk_journal.specs.declared.object.TaskRunState.{TaskRunState}
use Rattle.tk_journal.specs.declared.object.PodState.{PodState}
use Rattle.tk_journal.specs.Lists.{Has}
use Rattle.tk_journal.specs.Effects.{name_of, kind_of, writes, is_create, run_made, task_run_made, pod_made}
use Rattle.tk_journal.specs.History.{past, run_of, run_written, task_run_of, task_run_written, pod_of, pod_written, View, view_at}
use Rattle.tk_journal.specs.RunRows.{StartRow, ScheduleRow, HaltRow, CloseRunRow, CancelRow}
use Rattle.tk_journal.specs.AskRows.{RunAskRow, TaskRunAskRow}
use Rattle.tk_journal.specs.TaskRunRows.{OpenRow, CloseAttemptRow, CloseTaskRunRow}
use Rattle.tk_journal.specs.PodRows.{ClaimRow, EndRow}
use Rattle.tk_journal.specs.Rows.{IsJustified}
use Rattle.tk_journal.specs.Legal.{IsCurrent, IsWritable}
use Rattle.tk_journal.proofs.Past.{same_state}

-- what doesn't make an object makes none
pub no_run : (act : Act) → is_create act ≡ false → run_made act ≡ None
no_run (acts.Admit name spec pending asked root) waits = cc
no_run act waits = refl

pub no_task_run : (runs : List ℕ → Option RunState) (act : Act) → is_create act ≡ false → task_run_made runs act ≡ None
no_task_run runs (acts.Admit name spec pending asked root) waits = cc
no_task_run runs (acts.MakeTaskRun name run task index mark) waits = cc
no_task_run runs act waits = refl

pub no_pod : (act : Act) → is_create act ≡ false → pod_made act ≡ None
no_pod (acts.MakePod name task_run attempt plan mark) waits = cc
no_pod act waits = refl

pub has_at : {X : Type 0} (P : X → Type 0) (o now : Option X) (x : X) → Has o P → o ≡ now → now ≡ Some x → P x
has_at P o now x has same is = subst P (same_Some has.it x (sym has.is ∙ same ∙ is)) has.has

module _ (view : View) (actor : Actor) (moment : ℕ) where
  -- the part of an act's row that speaks of the run, TaskRun or pod that it changes
  abbrev pub RunRow : Act → RunState → Type 0
  RunRow (acts.Ask name status) run = RunAskRow status run
  RunRow (acts.Start name) run = StartRow run
  RunRow (acts.Schedule name task bindings) run = ScheduleRow view task bindings run
  RunRow (acts.Halt name stop) run = HaltRow view moment stop run
  RunRow (acts.Close name closing) run = CloseRunRow view closing run
  RunRow _ run = ⊥

  abbrev pub TaskRunRow : Act → TaskRunState → Type 0
  TaskRunRow (acts.Ask name status) task_run = TaskRunAskRow task_run
  TaskRunRow (acts.CancelTaskRun name) task_run = CancelRow view task_run
  TaskRunRow (acts.OpenAttempt name) task_run = OpenRow task_run
  TaskRunRow (acts.Close name (closings.Attempt outcome)) task_run = CloseAttemptRow view name outcome task_run
  TaskRunRow (acts.Close name closings.TaskRun) task_run = CloseTaskRunRow task_run
  TaskRunRow _ task_run = ⊥

  abbrev pub PodRow : Act → PodState → Type 0
  PodRow (acts.ClaimPod name) pod = ClaimRow view actor pod
  PodRow (acts.EndPod name exits outcome) pod = EndRow view actor moment exits outcome pod
  PodRow _ pod = ⊥

module _ (older : List Entry) (fronts : Fronts) (actor : Actor) (moment : ℕ) where
  abbrev pub seen : View
  seen = view_at fronts older

  pub same_run : (name : List ℕ) → IsCurrent kinds.Runs name fronts older → run_of (past fronts.runs older) name ≡ run_of older name
  same_run name current = same_state (writes kinds.Runs name) (λ (before : List Entry) e was. run_written e was) (λ before e mine waits. no_run e.act waits) fronts.runs older current

  pub same_task_run : (name : List ℕ) → IsCurrent kinds.TaskRuns name fronts older → task_run_of (past fronts.task_runs older) name ≡ task_run_of older name
  same_task_run name current = same_state (writes kinds.TaskRuns name) (λ (before : List Entry) e was. task_run_written (run_of before) e was) (λ before e mine waits. no_task_run (run_of before) e.act waits) fronts.task_runs older current

  pub same_pod : (name : List ℕ) → IsCurrent kinds.Pods name fronts older → pod_of (past fronts.pods older) name ≡ pod_of older name
  same_pod name current = same_state (writes kinds.Pods name) (λ (before : List Entry) e was. pod_written e was) (λ before e mine waits. no_pod e.act waits) fronts.pods older current

  pub run_row : (act : Act) (run : RunState) → kind_of act ≡ kinds.Runs → run_of older (name_of act) ≡ Some run → IsJustified seen actor moment act → IsWritable (is_create act) (kind_of act) (name_of act) fronts older → RunRow seen actor moment act run
  run_row (acts.Admit name (admissions.Run spec) pending asked root) run kind there just free = cc
  run_row (acts.Ask name asks.Start) run kind there just current = has_at (RunAskRow asks.Start) _ _ run just.1 (same_run name current) there
  run_row (acts.Ask name asks.StoppedRunFinally) run kind there just current = has_at (RunAskRow asks.StoppedRunFinally) _ _ run just.1 (same_run name current) there
  run_row (acts.Ask name asks.CancelledRunFinally) run kind there just current = has_at (RunAskRow asks.CancelledRunFinally) _ _ run just.1 (same_run name current) there
  run_row (acts.Ask name asks.Cancelled) run kind there just current = has_at (RunAskRow asks.Cancelled) _ _ run just.1 (same_run name current) there
  run_row (acts.Start name) run kind there just current = has_at StartRow _ _ run just.1 (same_run name current) there
  run_row (acts.Schedule name task bindings) run kind there just current = has_at (ScheduleRow seen task bindings) _ _ run just.1 (same_run name current) there
  run_row (acts.Halt name stop) run kind there just current = has_at (HaltRow seen moment stop) _ _ run just.1 (same_run name current) there
  run_row (acts.Close name (closings.Run condition skipped results)) run kind there just current = has_at (CloseRunRow seen (closings.Run condition skipped results)) _ _ run just.1 (same_run name current) there
  run_row act run kind there just current = cc

  pub task_run_row : (act : Act) (task_run : TaskRunState) → kind_of act ≡ kinds.TaskRuns → task_run_of older (name_of act) ≡ Some task_run → IsJustified seen actor moment act → IsWritable (is_create act) (kind_of act) (name_of act) fronts older → TaskRunRow seen actor moment act task_run
  task_run_row (acts.Admit name (admissions.Task spec) pending asked root) task_run kind there just free = cc
  task_run_row (acts.MakeTaskRun name run task index mark) task_run kind there just free = cc
  task_run_row (acts.Ask name asks.TaskRunCancelled) task_run kind there just current = has_at TaskRunAskRow _ _ task_run just.1 (same_task_run name current) there
  task_run_row (acts.CancelTaskRun name) task_run kind there just current = has_at (CancelRow seen) _ _ task_run just.1 (same_task_run name current) there
  task_run_row (acts.OpenAttempt name) task_run kind there just current = has_at OpenRow _ _ task_run just.1 (same_task_run name current) there
  task_run_row (acts.Close name (closings.Attempt outcome)) task_run kind there just current = has_at (CloseAttemptRow seen name outcome) _ _ task_run just.1 (same_task_run name current) there
  task_run_row (acts.Close name closings.TaskRun) task_run kind there just current = has_at CloseTaskRunRow _ _ task_run just.1 (same_task_run name current) there
  task_run_row act task_run kind there just current = cc

  pub pod_row : (act : Act) (pod : PodState) → kind_of act ≡ kinds.Pods → pod_of older (name_of act) ≡ Some pod → IsJustified seen actor moment act → IsWritable (is_create act) (kind_of act) (name_of act) fronts older → PodRow seen actor moment act pod
  pod_row (acts.MakePod name task_run attempt plan mark) pod kind there just free = cc
  pod_row (acts.ClaimPod name) pod kind there just current = has_at (ClaimRow seen actor) _ _ pod just (same_pod name current) there
  pod_row (acts.EndPod name exits outcome) pod kind there just current = has_at (EndRow seen actor moment exits outcome) _ _ pod just (same_pod name current) there
  pod_row (acts.Admit name (admissions.Run spec) pending asked root) pod kind there just free = cc
  pod_row (acts.Ask name asks.Start) pod kind there just current = cc
  pod_row (acts.Close name closings.TaskRun) pod kind there just current = cc
  pod_row act pod kind there just current = cc
