-- An object is there exactly where an entry made it, and an entry that changes an object finds it there.
use Rattle.std.proofs.Common.{◌≡◌, ℕ, ◌<◌, List, [], ◌∷◌, Option, Some, None, true, false, refl, sym, ap, ◌∙◌, inl, inr, arith}
use Rattle.std.specs.Prelude.{bytes_eq, ◌&&◌}
use Rattle.std.proofs.lemmas.Bool.{cases_Bool, and_parts}
use Rattle.tk_types.specs.declared.scenario.Kind.{Kind}
use Rattle.tk_types.specs.declared.scenario.Kind.TheVariants as kinds
use Rattle.tk_types.specs.declared.object.Asked.TheVariants as asks
use Rattle.tk_journal.specs.declared.act.Act.{Act}
use Rattle.tk_journal.specs.declared.act.Act.TheVariants as acts
use Rattle.tk_journal.specs.declared.act.Admission.TheVariants as admissions
use Rattle.tk_journal.specs.declared.act.Closing.TheVariants as closings
use Rattle.tk_journal.specs.declared.entry.Entry.{Entry}
use Rattle.tk_journal.specs.declared.entry.Fronts.{Fronts}
use Rattle.tk_journal.specs.declared.entry.Actor.{Actor}
use Rattle.tk_journal.specs.declared.object.RunState.{RunState}
use Rattle.tk_journal.specs.declared.object.TaskRunState.{TaskRunState}
use Rattle.tk_journal.specs.declared.object.PodState.{PodState}
use Rattle.tk_journal.specs.Effects.{name_of, kind_of, same_kind, writes, run_made, task_run_made, pod_made}
use Rattle.tk_journal.specs.History.{state_of, run_of, run_written, task_run_of, task_run_written, pod_of, pod_written, view_at, creates}
use Rattle.tk_journal.specs.Lists.{Has}
use Rattle.tk_journal.specs.Rows.{IsJustified}
use Rattle.tk_journal.specs.Effects.{is_create}
use Rattle.tk_journal.specs.Legal.{IsFree, IsWritable}
use Rattle.tk_journal.proofs.Present.{same_task_run}
use Rattle.tk_journal.proofs.Making.{run_makes, pod_makes}
use Rattle.tk_store.specs.Writes.{made_at}
use Rattle.tk_store.proofs.Creates.{creates_create}

gone : {X : Type 0} (P : X → Type 0) (o now : Option X) → Has o P → o ≡ now → now ≡ None → ⊥
gone P o now has same none = let is = has.is in cc

module _ {X : Type 0} (kind : Kind) (written : List Entry → Entry → Option X → Option X)
    (makes : (older : List Entry) (e : Entry) (x : X) → written older e None ≡ Some x → creates kind e.act ≡ true) where
  later : (e : Entry) (older : List Entry) (name : List ℕ) → 0 < made_at kind name older → 0 < made_at kind name (e ∷ older)
  later e older name before = elim (cases_Bool (creates kind e.act && bytes_eq (name_of e.act) name)) [
    | inl hit ↦ rw hit (omega arith)
    | inr miss ↦ rw miss before
  ]

  now : (e : Entry) (older : List Entry) (name : List ℕ) → creates kind e.act ≡ true → bytes_eq (name_of e.act) name ≡ true → 0 < made_at kind name (e ∷ older)
  now e older name made named = rw (made, named) (omega arith)

  pub made_there : (history : List Entry) (name : List ℕ) (x : X) → state_of (writes kind name) written history ≡ Some x → 0 < made_at kind name history
  made_there [] name x is = cc
  made_there (e ∷ older) name x is = elim (cases_Bool (writes kind name e)) [
    | inl hit ↦ by (state_of (writes kind name) written older) refl (sym (rw hit refl) ∙ is) ((and_parts (same_kind kind (kind_of e.act)) (bytes_eq (name_of e.act) name) hit).1) (λ y there. made_there older name y there)
    | inr miss ↦ later e older name (made_there older name x (sym (rw miss refl) ∙ is))
  ]
    where
      by : (o : Option X) → state_of (writes kind name) written older ≡ o → written older e (state_of (writes kind name) written older) ≡ Some x → bytes_eq (name_of e.act) name ≡ true
          → ((y : X) → state_of (writes kind name) written older ≡ Some y → 0 < made_at kind name older) → 0 < made_at kind name (e ∷ older)
      by None before out named rec = now e older name (makes older e x (sym (ap (written older e) before) ∙ out)) named
      by (Some y) before out named rec = later e older name (rec y before)

  pub free_where : (history : List Entry) (name : List ℕ) → made_at kind name history ≡ 0 → state_of (writes kind name) written history ≡ None
  free_where history name none = by (state_of (writes kind name) written history) refl
    where
      by : (o : Option X) → state_of (writes kind name) written history ≡ o → o ≡ None
      by None is = refl
      by (Some x) is = let there = made_there history name x is in absurd (omega (arith, there, none))

run_creates : (act : Act) (run : RunState) → run_made act ≡ Some run → creates kinds.Runs act ≡ true
run_creates (acts.Admit name (admissions.Run spec) pending asked root) run is = refl
run_creates act run is = cc

task_run_creates : (runs : List ℕ → Option RunState) (act : Act) (task_run : TaskRunState) → task_run_made runs act ≡ Some task_run → creates kinds.TaskRuns act ≡ true
task_run_creates runs (acts.MakeTaskRun name run task index mark) task_run is = refl
task_run_creates runs (acts.Admit name (admissions.Task spec) pending asked root) task_run is = refl
task_run_creates runs act task_run is = cc

pod_creates : (act : Act) (pod : PodState) → pod_made act ≡ Some pod → creates kinds.Pods act ≡ true
pod_creates (acts.MakePod name task_run attempt plan mark) pod is = refl
pod_creates act pod is = cc

-- a name that no entry made an object of is free
pub is_free : (kind : Kind) (history : List Entry) (name : List ℕ) → made_at kind name history ≡ 0 → IsFree kind name history
is_free kinds.Runs history name none = free_where kinds.Runs (λ (before : List Entry) e was. run_written e was) (λ older e x is. run_creates e.act x is) history name none
is_free kinds.TaskRuns history name none = free_where kinds.TaskRuns (λ (before : List Entry) e was. task_run_written (run_of before) e was) (λ older e x is. task_run_creates (run_of older) e.act x is) history name none
is_free kinds.Pods history name none = free_where kinds.Pods (λ (before : List Entry) e was. pod_written e was) (λ older e x is. pod_creates e.act x is) history name none

module _ (older : List Entry) (fronts : Fronts) (actor : Actor) (moment : ℕ) where
  task_run_makes : (act : Act) → kind_of act ≡ kinds.TaskRuns → is_create act ≡ false → task_run_of older (name_of act) ≡ None → IsJustified (view_at fronts older) actor moment act → IsWritable (is_create act) (kind_of act) (name_of act) fronts older → ⊥
  task_run_makes (acts.Ask name asks.TaskRunCancelled) kind update none just current = gone _ _ _ just.1 (same_task_run older fronts actor moment name current) none
  task_run_makes (acts.CancelTaskRun name) kind update none just current = gone _ _ _ just.1 (same_task_run older fronts actor moment name current) none
  task_run_makes (acts.OpenAttempt name) kind update none just current = gone _ _ _ just.1 (same_task_run older fronts actor moment name current) none
  task_run_makes (acts.Close name (closings.Attempt outcome)) kind update none just current = gone _ _ _ just.1 (same_task_run older fronts actor moment name current) none
  task_run_makes (acts.Close name closings.TaskRun) kind update none just current = gone _ _ _ just.1 (same_task_run older fronts actor moment name current) none
  task_run_makes act kind update none just current = cc

module _ (older : List Entry) (fronts : Fronts) (actor : Actor) (moment : ℕ) (act : Act) (update : is_create act ≡ false)
    (just : IsJustified (view_at fronts older) actor moment act) (current : IsWritable (is_create act) (kind_of act) (name_of act) fronts older) where
  -- what an update changes was made before
  pub is_there : (kind : Kind) → kind_of act ≡ kind → 0 < made_at kind (name_of act) older
  is_there kinds.Runs kind = by (run_of older (name_of act)) refl
    where
      by : (o : Option RunState) → run_of older (name_of act) ≡ o → 0 < made_at kinds.Runs (name_of act) older
      by None none = absurd (let made = creates_create kinds.Runs act (run_makes older fronts actor moment act kind none just current).1 in cc)
      by (Some x) there = made_there kinds.Runs (λ (before : List Entry) e was. run_written e was) (λ older e x is. run_creates e.act x is) older (name_of act) x there
  is_there kinds.TaskRuns kind = by (task_run_of older (name_of act)) refl
    where
      by : (o : Option TaskRunState) → task_run_of older (name_of act) ≡ o → 0 < made_at kinds.TaskRuns (name_of act) older
      by None none = absurd (task_run_makes older fronts actor moment act kind update none just current)
      by (Some x) there = made_there kinds.TaskRuns (λ (before : List Entry) e was. task_run_written (run_of before) e was) (λ older e x is. task_run_creates (run_of older) e.act x is) older (name_of act) x there
  is_there kinds.Pods kind = by (pod_of older (name_of act)) refl
    where
      by : (o : Option PodState) → pod_of older (name_of act) ≡ o → 0 < made_at kinds.Pods (name_of act) older
      by None none = absurd (let made = creates_create kinds.Pods act (pod_makes older fronts actor moment act kind none just current).1 in cc)
      by (Some x) there = made_there kinds.Pods (λ (before : List Entry) e was. pod_written e was) (λ older e x is. pod_creates e.act x is) older (name_of act) x there
