-- An entry of a legal history makes its object where that isn't there yet, and finds it there where it changes it.
use Rattle.std.proofs.Common.{◌≡◌, ℕ, List, Option, Some, None, true, false, refl, is_some}
use Rattle.tk_types.specs.declared.scenario.Kind.TheVariants as kinds
use Rattle.tk_journal.specs.declared.entry.Fronts.{Fronts}
use Rattle.tk_journal.specs.declared.entry.Actor.{Actor}
use Rattle.tk_types.specs.declared.object.Asked.TheVariants as asks
use Rattle.tk_journal.specs.declared.act.Admission.TheVariants as admissions
use Rattle.tk_journal.specs.declared.act.Closing.TheVariants as closings
use Rattle.tk_journal.specs.declared.act.Act.{Act}
use Rattle.tk_journal.specs.declared.act.Act.TheVariants as acts
use Rattle.tk_journal.specs.declared.entry.Entry.{Entry}
use Rattle.tk_journal.specs.declared.object.RunState.{RunState}
use Rattle.tk_journal.specs.declared.object.PodState.{PodState}
use Rattle.tk_journal.specs.Lists.{Has}
use Rattle.tk_journal.specs.Effects.{name_of, kind_of, run_made, pod_made, is_create}
use Rattle.tk_journal.specs.History.{run_of, pod_of, view_at, creates}
use Rattle.tk_journal.specs.Rows.{IsJustified}
use Rattle.tk_journal.specs.Legal.{IsWritable}
use Rattle.tk_journal.proofs.Present.{same_run, same_pod}

gone : {X : Type 0} (P : X → Type 0) (o now : Option X) → Has o P → o ≡ now → now ≡ None → ⊥
gone P o now has same none = let is = has.is in cc

module _ (older : List Entry) (fronts : Fronts) (actor : Actor) (moment : ℕ) where
  pub run_makes : (act : Act) → kind_of act ≡ kinds.Runs → run_of older (name_of act) ≡ None → IsJustified (view_at fronts older) actor moment act → IsWritable (is_create act) (kind_of act) (name_of act) fronts older
      → (is_some (run_made act) ≡ true) × (creates kinds.Runs act ≡ true)
  run_makes (acts.Admit name (admissions.Run spec) pending asked root) kind none just free = (refl, refl)
  run_makes (acts.Ask name asks.Start) kind none just current = absurd (gone _ _ _ just.1 (same_run older fronts actor moment name current) none)
  run_makes (acts.Ask name asks.StoppedRunFinally) kind none just current = absurd (gone _ _ _ just.1 (same_run older fronts actor moment name current) none)
  run_makes (acts.Ask name asks.CancelledRunFinally) kind none just current = absurd (gone _ _ _ just.1 (same_run older fronts actor moment name current) none)
  run_makes (acts.Ask name asks.Cancelled) kind none just current = absurd (gone _ _ _ just.1 (same_run older fronts actor moment name current) none)
  run_makes (acts.Start name) kind none just current = absurd (gone _ _ _ just.1 (same_run older fronts actor moment name current) none)
  run_makes (acts.Schedule name task bindings) kind none just current = absurd (gone _ _ _ just.1 (same_run older fronts actor moment name current) none)
  run_makes (acts.Halt name stop) kind none just current = absurd (gone _ _ _ just.1 (same_run older fronts actor moment name current) none)
  run_makes (acts.Close name (closings.Run condition skipped results)) kind none just current = absurd (gone _ _ _ just.1 (same_run older fronts actor moment name current) none)
  run_makes act kind none just free = cc

  pub run_changes : (act : Act) (run : RunState) → run_of older (name_of act) ≡ Some run → IsWritable (is_create act) (kind_of act) (name_of act) fronts older → creates kinds.Runs act ≡ false
  run_changes (acts.Admit name (admissions.Run spec) pending asked root) run there free = cc
  run_changes (acts.Admit name (admissions.Task spec) pending asked root) run there free = refl
  run_changes act run there free = refl

  pub pod_makes : (act : Act) → kind_of act ≡ kinds.Pods → pod_of older (name_of act) ≡ None → IsJustified (view_at fronts older) actor moment act → IsWritable (is_create act) (kind_of act) (name_of act) fronts older
      → (is_some (pod_made act) ≡ true) × (creates kinds.Pods act ≡ true)
  pod_makes (acts.MakePod name task_run attempt plan mark) kind none just free = (refl, refl)
  pod_makes (acts.ClaimPod name) kind none just current = absurd (gone _ _ _ just (same_pod older fronts actor moment name current) none)
  pod_makes (acts.EndPod name exits outcome) kind none just current = absurd (gone _ _ _ just (same_pod older fronts actor moment name current) none)
  pod_makes (acts.Admit name (admissions.Run spec) pending asked root) kind none just free = cc
  pod_makes (acts.Admit name (admissions.Task spec) pending asked root) kind none just free = cc
  pod_makes (acts.Ask name asks.Start) kind none just free = cc
  pod_makes (acts.Ask name asks.StoppedRunFinally) kind none just free = cc
  pod_makes (acts.Ask name asks.CancelledRunFinally) kind none just free = cc
  pod_makes (acts.Ask name asks.Cancelled) kind none just free = cc
  pod_makes (acts.Ask name asks.TaskRunCancelled) kind none just free = cc
  pod_makes (acts.Close name (closings.Attempt outcome)) kind none just free = cc
  pod_makes (acts.Close name closings.TaskRun) kind none just free = cc
  pod_makes (acts.Close name (closings.Run condition skipped results)) kind none just free = cc
  pod_makes act kind none just free = cc

  pub pod_changes : (act : Act) (pod : PodState) → pod_of older (name_of act) ≡ Some pod → IsWritable (is_create act) (kind_of act) (name_of act) fronts older → creates kinds.Pods act ≡ false
  pod_changes (acts.MakePod name task_run attempt plan mark) pod there free = cc
  pod_changes act pod there free = refl
