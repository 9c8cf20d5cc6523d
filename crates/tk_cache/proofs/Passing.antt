-- One step of the fronts of runs and of pods, with the places of a loop.
use Rattle.std.proofs.Common.{◌≡◌, ℕ, suc, ◌+◌, ◌<◌, List, ◌∷◌, length, Option, Some, None, true, false, refl, sym, subst, arith}
use Rattle.std.specs.declared.string.String.{String}
use Rattle.indexmap.specs.IndexMap.{IndexMap}
use Rattle.tk_types.specs.declared.scenario.Kind.{Kind}
use Rattle.tk_types.specs.declared.scenario.Kind.TheVariants as kinds
use Rattle.tk_journal.specs.declared.entry.Entry.{Entry}
use Rattle.tk_journal.specs.declared.object.RunState.{RunState}
use Rattle.tk_journal.specs.declared.object.PodState.{PodState}
use Rattle.tk_journal.specs.Journal.{entry_at}
use Rattle.tk_journal.specs.Effects.{name_of, kind_of, same_kind, run_made, run_after, pod_made, pod_after}
use Rattle.tk_journal.specs.History.{past, run_of, run_written, pod_written}
use Rattle.tk_journal.specs.Made.{MakesOrChanges, Writes}
use Rattle.tk_journal.specs.Legal.{IsLegal}
use Rattle.tk_journal.proofs.Claimed.{legal_past}
use Rattle.tk_journal.proofs.Made.{writes}
use Rattle.tk_journal.proofs.Present.{no_run, no_pod}
use Rattle.tk_journal.proofs.Positions.{past_step}
use Rattle.tk_cache.specs.declared.objects.Held.{Held}
use Rattle.tk_cache.specs.Objects.{object_at, names_in}
use Rattle.tk_cache.specs.Shown.{AreRuns, ArePods, Stand}
use Rattle.tk_cache.specs.Written.{AreRunsAfter, ArePodsAfter, names_after}
use Rattle.tk_cache.proofs.Positions.{length_past}
use Rattle.tk_cache.proofs.Steps.{written_by, passed, objects_passed, changed, objects_changed}

pub same_kind_is : (a b : Kind) → same_kind a b ≡ true → b ≡ a
same_kind_is kinds.Runs kinds.Runs is = refl
same_kind_is kinds.TaskRuns kinds.TaskRuns is = refl
same_kind_is kinds.Pods kinds.Pods is = refl
same_kind_is a b is = cc

abbrev run_by : List Entry → Entry → Option RunState → Option RunState
run_by older e before = run_written e before

abbrev pod_by : List Entry → Entry → Option PodState → Option PodState
pod_by older e before = pod_written e before

run_same : (e : Entry) (o : Option RunState) → run_written e o ≡ written_by (run_after e.moment e.act) (run_made e.act) o
run_same e None = refl
run_same e (Some x) = refl

pod_same : (e : Entry) (o : Option PodState) → pod_written e o ≡ written_by (pod_after e.actor e.act) (pod_made e.act) o
pod_same e None = refl
pod_same e (Some x) = refl

module _ (place : ℕ) (e : Entry) (history : List Entry) (at : entry_at (place + 1) history ≡ Some e) (legal : IsLegal history) (within : place < length history) where
  next : past (place + 1) history ≡ e ∷ past place history
  next = past_step place e history at

  here : place + 1 ≡ suc (length (past place history))
  here = let long = length_past place history (omega (arith, within)) in omega (arith, long)

  written : Writes (past place history) e
  written = writes (past place history) e (subst IsLegal next (legal_past (place + 1) history legal))

  module _ {A S : Type 0} where
    pub beside_on : (m : IndexMap (String A) (Held RunState) S) → same_kind kinds.Runs (kind_of e.act) ≡ false → Stand (run_of (past place history)) m → Stand (run_of (past (place + 1) history)) m
    beside_on m other before = subst (λ (h : List Entry). Stand (run_of h) m) (sym next)
        (objects_passed kinds.Runs run_by (past place history) e (run_after e.moment e.act) (run_made e.act) (run_same e) m other before)

    pub beside_ready : (m : IndexMap (String A) (Held RunState) S) → same_kind kinds.Runs (kind_of e.act) ≡ true → Stand (run_of (past place history)) m → MakesOrChanges kinds.Runs e (run_made e.act) (object_at m (name_of e.act))
    beside_ready m own before = subst (λ (o : Option RunState). MakesOrChanges kinds.Runs e (run_made e.act) o) (sym (before (name_of e.act))) (written.runs (same_kind_is kinds.Runs (kind_of e.act) own))

    pub beside_moved : (m n : IndexMap (String A) (Held RunState) S) → same_kind kinds.Runs (kind_of e.act) ≡ true → AreRunsAfter e (place + 1) m n → Stand (run_of (past place history)) m → Stand (run_of (past (place + 1) history)) n
    beside_moved m n own held before = subst (λ (h : List Entry). Stand (run_of h) n) (sym next)
        (objects_changed kinds.Runs run_by (past place history) e (run_after e.moment e.act) (run_made e.act) (run_same e) m n own (subst (λ (p : ℕ). AreRunsAfter e p m n) here held) before)

    pub runs_on : (m : IndexMap (String A) (Held RunState) S) → same_kind kinds.Runs (kind_of e.act) ≡ false → AreRuns (past place history) m → AreRuns (past (place + 1) history) m
    runs_on m other before = subst (λ (h : List Entry). AreRuns h m) (sym next)
        (passed kinds.Runs run_by (past place history) e (run_after e.moment e.act) (run_made e.act) (run_same e) m other before)

    pub runs_moved : (m n : IndexMap (String A) (Held RunState) S) → same_kind kinds.Runs (kind_of e.act) ≡ true → AreRunsAfter e (place + 1) m n
        → names_in n ≡ names_after kinds.Runs e.act (names_in m)
        → AreRuns (past place history) m → AreRuns (past (place + 1) history) n
    runs_moved m n own held names before = subst (λ (h : List Entry). AreRuns h n) (sym next)
        (changed kinds.Runs run_by (past place history) e (run_after e.moment e.act) (run_made e.act) (run_same e) m n own (subst (λ (p : ℕ). AreRunsAfter e p m n) here held)
        (λ older d update. no_run d.act update) (beside_ready m own before.objects) names before)

    pub pods_on : (m : IndexMap (String A) (Held PodState) S) → same_kind kinds.Pods (kind_of e.act) ≡ false → ArePods (past place history) m → ArePods (past (place + 1) history) m
    pods_on m other before = subst (λ (h : List Entry). ArePods h m) (sym next)
        (passed kinds.Pods pod_by (past place history) e (pod_after e.actor e.act) (pod_made e.act) (pod_same e) m other before)

    pub pods_ready : (m : IndexMap (String A) (Held PodState) S) → same_kind kinds.Pods (kind_of e.act) ≡ true → ArePods (past place history) m → MakesOrChanges kinds.Pods e (pod_made e.act) (object_at m (name_of e.act))
    pods_ready m own before = subst (λ (o : Option PodState). MakesOrChanges kinds.Pods e (pod_made e.act) o) (sym (before.objects (name_of e.act))) (written.pods (same_kind_is kinds.Pods (kind_of e.act) own))

    pub pods_moved : (m n : IndexMap (String A) (Held PodState) S) → same_kind kinds.Pods (kind_of e.act) ≡ true → ArePodsAfter e (place + 1) m n
        → names_in n ≡ names_after kinds.Pods e.act (names_in m)
        → ArePods (past place history) m → ArePods (past (place + 1) history) n
    pods_moved m n own held names before = subst (λ (h : List Entry). ArePods h n) (sym next)
        (changed kinds.Pods pod_by (past place history) e (pod_after e.actor e.act) (pod_made e.act) (pod_same e) m n own (subst (λ (p : ℕ). ArePodsAfter e p m n) here held)
        (λ older d update. no_pod d.act update) (pods_ready m own before) names before)
