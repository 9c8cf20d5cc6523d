-- One step of the front of TaskRuns, beside the runs as they stand there.
use Rattle.std.proofs.Common.{◌≡◌, ℕ, suc, ◌+◌, ◌<◌, List, ◌∷◌, length, Option, Some, None, true, false, refl, sym, subst, arith}
use Rattle.std.specs.declared.string.String.{String}
use Rattle.indexmap.specs.IndexMap.{IndexMap}
use Rattle.tk_types.specs.declared.scenario.Kind.TheVariants as kinds
use Rattle.tk_journal.specs.declared.entry.Entry.{Entry}
use Rattle.tk_journal.specs.declared.object.RunState.{RunState}
use Rattle.tk_journal.specs.declared.object.TaskRunState.{TaskRunState}
use Rattle.tk_journal.specs.Journal.{entry_at}
use Rattle.tk_journal.specs.Effects.{name_of, kind_of, same_kind, task_run_made, task_run_after}
use Rattle.tk_journal.specs.History.{past, run_of, task_run_of, task_run_written}
use Rattle.tk_journal.specs.Made.{MakesOrChanges}
use Rattle.tk_journal.specs.Legal.{IsLegal}
use Rattle.tk_journal.proofs.Claimed.{legal_past}
use Rattle.tk_journal.proofs.Made.{writes}
use Rattle.tk_journal.proofs.Present.{no_task_run}
use Rattle.tk_journal.proofs.Positions.{past_step}
use Rattle.tk_cache.specs.declared.objects.Held.{Held}
use Rattle.tk_cache.specs.Objects.{object_at, names_in}
use Rattle.tk_cache.specs.Shown.{AreTaskRuns, Stand}
use Rattle.tk_cache.specs.Written.{AreTaskRunsAfter, names_after}
use Rattle.tk_cache.proofs.Passing.{same_kind_is}
use Rattle.tk_cache.proofs.Positions.{length_past}
use Rattle.tk_cache.proofs.Steps.{written_by, passed, changed}

abbrev task_run_by : List Entry → Entry → Option TaskRunState → Option TaskRunState
task_run_by older e before = task_run_written (run_of older) e before

same : (runs : List ℕ → Option RunState) (e : Entry) (o : Option TaskRunState) → task_run_written runs e o ≡ written_by (task_run_after e.moment e.act) (task_run_made runs e.act) o
same runs e None = refl
same runs e (Some x) = refl

module _ (place : ℕ) (e : Entry) (history : List Entry) (at : entry_at (place + 1) history ≡ Some e) (legal : IsLegal history) (within : place < length history) where
  next : past (place + 1) history ≡ e ∷ past place history
  next = past_step place e history at

  here : place + 1 ≡ suc (length (past place history))
  here = let long = length_past place history (omega (arith, within)) in omega (arith, long)

  written : same_kind kinds.TaskRuns (kind_of e.act) ≡ true → MakesOrChanges kinds.TaskRuns e (task_run_made (run_of (past place history)) e.act) (task_run_of (past place history) (name_of e.act))
  written own = (writes (past place history) e (subst IsLegal next (legal_past (place + 1) history legal))).task_runs (same_kind_is kinds.TaskRuns (kind_of e.act) own)

  module _ {A S : Type 0} where
    pub task_runs_on : (m : IndexMap (String A) (Held TaskRunState) S) → same_kind kinds.TaskRuns (kind_of e.act) ≡ false → AreTaskRuns (past place history) m → AreTaskRuns (past (place + 1) history) m
    task_runs_on m other before = subst (λ (h : List Entry). AreTaskRuns h m) (sym next)
        (passed kinds.TaskRuns task_run_by (past place history) e (task_run_after e.moment e.act) (task_run_made (run_of (past place history)) e.act) (same (run_of (past place history)) e) m other before)

  module _ {A S : Type 0} (runs : IndexMap (String A) (Held RunState) S) (stand : Stand (run_of (past place history)) runs) where
    same_runs : object_at runs ≡ run_of (past place history)
    same_runs = λ i name. stand name i

    pub task_runs_ready : (m : IndexMap (String A) (Held TaskRunState) S) → same_kind kinds.TaskRuns (kind_of e.act) ≡ true → AreTaskRuns (past place history) m
        → MakesOrChanges kinds.TaskRuns e (task_run_made (object_at runs) e.act) (object_at m (name_of e.act))
    task_runs_ready m own before = subst (λ (o : Option TaskRunState). MakesOrChanges kinds.TaskRuns e (task_run_made (object_at runs) e.act) o) (sym (before.objects (name_of e.act)))
        (subst (λ (f : List ℕ → Option RunState). MakesOrChanges kinds.TaskRuns e (task_run_made f e.act) (task_run_of (past place history) (name_of e.act))) (sym same_runs) (written own))

    pub task_runs_moved : (m n : IndexMap (String A) (Held TaskRunState) S) → same_kind kinds.TaskRuns (kind_of e.act) ≡ true
        → AreTaskRunsAfter (object_at runs) e (place + 1) m n
        → names_in n ≡ names_after kinds.TaskRuns e.act (names_in m)
        → AreTaskRuns (past place history) m → AreTaskRuns (past (place + 1) history) n
    task_runs_moved m n own held names before = subst (λ (h : List Entry). AreTaskRuns h n) (sym next)
        (changed kinds.TaskRuns task_run_by (past place history) e (task_run_after e.moment e.act) (task_run_made (run_of (past place history)) e.act) (same (run_of (past place history)) e) m n own
        (subst (λ (f : List ℕ → Option RunState). AreTaskRunsAfter f e (suc (length (past place history))) m n) same_runs
        (subst (λ (p : ℕ). AreTaskRunsAfter (object_at runs) e p m n) here held))
        (λ older d update. no_task_run (run_of older) d.act update)
        (subst (λ (o : Option TaskRunState). MakesOrChanges kinds.TaskRuns e (task_run_made (run_of (past place history)) e.act) o) (sym (before.objects (name_of e.act))) (written own))
        names before)
