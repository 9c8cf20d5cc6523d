-- An entry of a legal history makes its object where that isn't there yet, and finds it there where it changes it.
use Rattle.std.proofs.Common.{◌≡◌, suc, List, ◌∷◌, Option, Some, None, true, false, refl, ap, subst, is_some}
use Rattle.tk_types.specs.declared.scenario.Kind.TheVariants as kinds
use Rattle.tk_types.specs.declared.object.Asked.TheVariants as asks
use Rattle.tk_journal.specs.declared.act.Admission.TheVariants as admissions
use Rattle.tk_journal.specs.declared.act.Closing.TheVariants as closings
use Rattle.tk_journal.specs.declared.act.Act.{Act}
use Rattle.tk_journal.specs.declared.act.Act.TheVariants as acts
use Rattle.tk_journal.specs.declared.entry.Entry.{Entry}
use Rattle.tk_journal.specs.declared.object.RunState.{RunState}
use Rattle.tk_journal.specs.declared.object.TaskRunState.{TaskRunState}
use Rattle.tk_journal.specs.declared.object.PodState.{PodState}
use Rattle.tk_journal.specs.Lists.{IsThere, Has}
use Rattle.tk_journal.specs.Effects.{name_of, kind_of, run_made, task_run_made, pod_made, is_create}
use Rattle.tk_journal.specs.History.{past, run_of, task_run_of, pod_of, view_at, creates}
use Rattle.tk_journal.specs.Rows.{IsJustified}
use Rattle.tk_journal.specs.Legal.{IsLegal, IsWritable}
use Rattle.tk_journal.specs.Made.{MakesOrChanges, Writes, EntriesWrite}
use Rattle.tk_journal.proofs.Claimed.{legal_past}
use Rattle.tk_journal.proofs.Making.{run_makes, run_changes, pod_makes, pod_changes}
use Rattle.tk_journal.proofs.Positions.{past_next}
use Rattle.tk_journal.proofs.Present.{same_task_run}
use Rattle.tk_journal.proofs.Weighed.{child_there}

gone : {X : Type 0} (P : X → Type 0) (o now : Option X) → Has o P → o ≡ now → now ≡ None → ⊥
gone P o now has same none = let is = has.is in cc

there : {X : Type 0} (o : Option X) → IsThere o → is_some o ≡ true
there o (x, is) = ap is_some is

module _ (older : List Entry) (e : Entry) (legal : IsLegal (e ∷ older)) where
  makes : (act : Act) → kind_of act ≡ kinds.TaskRuns → task_run_of older (name_of act) ≡ None → IsJustified (view_at e.fronts older) e.actor e.moment act
      → IsWritable (is_create act) (kind_of act) (name_of act) e.fronts older → (is_some (task_run_made (run_of older) act) ≡ true) × (creates kinds.TaskRuns act ≡ true)
  makes (acts.Admit name (admissions.Task spec) pending asked root) kind none just free = (refl, refl)
  makes (acts.MakeTaskRun name run task index mark) kind none just free = (there _ (child_there older e legal name run task index mark just.1), refl)
  makes (acts.Ask name asks.TaskRunCancelled) kind none just current = absurd (gone _ _ _ just.1 (same_task_run older e.fronts e.actor e.moment name current) none)
  makes (acts.CancelTaskRun name) kind none just current = absurd (gone _ _ _ just.1 (same_task_run older e.fronts e.actor e.moment name current) none)
  makes (acts.OpenAttempt name) kind none just current = absurd (gone _ _ _ just.1 (same_task_run older e.fronts e.actor e.moment name current) none)
  makes (acts.Close name (closings.Attempt outcome)) kind none just current = absurd (gone _ _ _ just.1 (same_task_run older e.fronts e.actor e.moment name current) none)
  makes (acts.Close name closings.TaskRun) kind none just current = absurd (gone _ _ _ just.1 (same_task_run older e.fronts e.actor e.moment name current) none)
  makes act kind none just free = cc

  changes : (act : Act) (task_run : TaskRunState) → task_run_of older (name_of act) ≡ Some task_run → IsWritable (is_create act) (kind_of act) (name_of act) e.fronts older → creates kinds.TaskRuns act ≡ false
  changes (acts.Admit name (admissions.Task spec) pending asked root) task_run is free = cc
  changes (acts.Admit name (admissions.Run spec) pending asked root) task_run is free = refl
  changes (acts.MakeTaskRun name run task index mark) task_run is free = cc
  changes act task_run is free = refl

  runs : (o : Option RunState) → run_of older (name_of e.act) ≡ o → kind_of e.act ≡ kinds.Runs → MakesOrChanges kinds.Runs e (run_made e.act) o
  runs None is kind = run_makes older e.fronts e.actor e.moment e.act kind is legal.1.justified legal.1.writable
  runs (Some run) is kind = run_changes older e.fronts e.actor e.moment e.act run is legal.1.writable

  task_runs : (o : Option TaskRunState) → task_run_of older (name_of e.act) ≡ o → kind_of e.act ≡ kinds.TaskRuns → MakesOrChanges kinds.TaskRuns e (task_run_made (run_of older) e.act) o
  task_runs None is kind = makes e.act kind is legal.1.justified legal.1.writable
  task_runs (Some task_run) is kind = changes e.act task_run is legal.1.writable

  pods : (o : Option PodState) → pod_of older (name_of e.act) ≡ o → kind_of e.act ≡ kinds.Pods → MakesOrChanges kinds.Pods e (pod_made e.act) o
  pods None is kind = pod_makes older e.fronts e.actor e.moment e.act kind is legal.1.justified legal.1.writable
  pods (Some pod) is kind = pod_changes older e.fronts e.actor e.moment e.act pod is legal.1.writable

  pub writes : Writes older e
  writes = record {
    runs = runs (run_of older (name_of e.act)) refl;
    task_runs = task_runs (task_run_of older (name_of e.act)) refl;
    pods = pods (pod_of older (name_of e.act)) refl;
  }

pub entries_write : EntriesWrite
entries_write history legal place e at =
    writes (past place history) e (subst IsLegal (past_next place e history at) (legal_past (suc place) history legal))
