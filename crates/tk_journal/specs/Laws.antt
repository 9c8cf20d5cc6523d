-- The laws of legal histories. A position is before another one, or the same.
use Rattle.std.specs.Prelude.{◌≡◌, ◌≤◌, ℕ, List, Some, slice_get}
use Rattle.tk_verdict.specs.Moves.{IsSettled}
use Rattle.tk_journal.specs.declared.entry.Entry.{Entry}
use Rattle.tk_journal.specs.declared.object.RunState.{RunState}
use Rattle.tk_journal.specs.declared.object.TaskRunState.{TaskRunState}
use Rattle.tk_journal.specs.declared.object.Attempt.{Attempt}
use Rattle.tk_journal.specs.declared.object.PodState.{PodState}
use Rattle.tk_journal.specs.Lists.{IsThere, Has}
use Rattle.tk_journal.specs.History.{past, run_of, task_run_of, pod_of}
use Rattle.tk_journal.specs.Right.{IsRight, Lasting, AreOwnChildren, facts_at}
use Rattle.tk_journal.specs.Legal.{IsLegal}
use Rattle.tk_journal.specs.Grows.{RunGrows}
use Rattle.tk_verdict.specs.Gives.{label_of}

-- what is closed or ended is the same at every later position
pub record EndedStays : Type 0 where
  pub runs : (history : List Entry) → IsLegal history → (n m : ℕ) → n ≤ m → (name : List ℕ) (run : RunState)
      → run_of (past n history) name ≡ Some run → IsThere run.closed → run_of (past m history) name ≡ Some run
  pub task_runs : (history : List Entry) → IsLegal history → (n m : ℕ) → n ≤ m → (name : List ℕ) (task_run : TaskRunState)
      → task_run_of (past n history) name ≡ Some task_run → IsThere task_run.closed → task_run_of (past m history) name ≡ Some task_run
  pub attempts : (history : List Entry) → IsLegal history → (n m : ℕ) → n ≤ m
      → (name : List ℕ) (task_run : TaskRunState) (place : ℕ) (attempt : Attempt) → task_run_of (past n history) name ≡ Some task_run
      → slice_get task_run.attempts place ≡ Some attempt → IsThere attempt.outcome
      → Has (task_run_of (past m history) name) (λ (later : TaskRunState). slice_get later.attempts place ≡ Some attempt)
  pub pods : (history : List Entry) → IsLegal history → (n m : ℕ) → n ≤ m → (name : List ℕ) (pod : PodState)
      → pod_of (past n history) name ≡ Some pod → IsThere pod.ended → pod_of (past m history) name ≡ Some pod

-- a run's children, stops and asks at one position are the first ones of those later
abbrev pub RunsGrow : Type 0
RunsGrow =
    (history : List Entry) → IsLegal history → (n m : ℕ) → n ≤ m → (name : List ℕ) (run : RunState) → run_of (past n history) name ≡ Some run
    → Has (run_of (past m history) name) (RunGrows run)

-- a task's label stays once it and all that it rests on are done
abbrev pub LabelsStay : Type 0
LabelsStay =
    (history : List Entry) → IsLegal history → (n m : ℕ) → n ≤ m → (name : List ℕ) (task : ℕ) (run later : RunState)
    → run_of (past n history) name ≡ Some run → run_of (past m history) name ≡ Some later → IsSettled (facts_at (past n history) run) task
    → label_of (facts_at (past m history) later) task ≡ label_of (facts_at (past n history) run) task

abbrev pub Lasts : Type 0
Lasts = (history : List Entry) → IsLegal history → (n : ℕ) → Lasting (past n history) × AreOwnChildren (past n history)

abbrev pub LegalIsRight : Type 0
LegalIsRight = (history : List Entry) → IsLegal history → (n : ℕ) → IsRight (past n history)
