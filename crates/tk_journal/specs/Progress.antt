-- A legal history with something open can go on.
use Rattle.std.specs.Prelude.{◌≡◌, ◌⊎◌, ℕ, List, length, None, false}
use Rattle.tk_journal.specs.declared.entry.Actor.{Actor}
use Rattle.tk_journal.specs.declared.entry.Actor.TheVariants as actors
use Rattle.tk_journal.specs.declared.entry.Entry.{Entry}
use Rattle.tk_journal.specs.declared.entry.Fronts.{Fronts}
use Rattle.tk_journal.specs.declared.object.RunState.{RunState}
use Rattle.tk_journal.specs.declared.object.TaskRunState.{TaskRunState}
use Rattle.tk_journal.specs.declared.object.PodState.{PodState}
use Rattle.tk_journal.specs.Lists.{IsThere, Has}
use Rattle.tk_journal.specs.History.{run_of, task_run_of, pod_of}
use Rattle.tk_journal.specs.Legal.{IsLegal, IsStep}

-- a worker, or this kubelet in this life
abbrev pub IsPartOfProgram : ℕ → ℕ → Actor → Type 0
IsPartOfProgram number life (actors.Runs worker) = Unit {0}
IsPartOfProgram number life (actors.Tasks worker) = Unit {0}
IsPartOfProgram number life (actors.Kubelet n l) = (n ≡ number) × (l ≡ life)
IsPartOfProgram number life _ = ⊥

abbrev pub at_end : List Entry → Fronts
at_end history = record { runs = length history; task_runs = length history; pods = length history }

-- some entry of a worker, or of this kubelet, that sees all goes through at this moment
pub record CanGoOn (history : List Entry) (number life moment : ℕ) : Type 0 where
  pub entry : Entry
  pub by_program : IsPartOfProgram number life entry.actor
  pub now : entry.moment ≡ moment
  pub sees_all : entry.fronts ≡ at_end history
  pub step : IsStep history entry

-- a claimed pod hasn't ended
pub record HoldsPod (history : List Entry) : Type 0 where
  pub name : List ℕ
  pub held : Has (pod_of history name) (λ (pod : PodState). IsThere pod.claim × (pod.ended ≡ None))

-- a run that isn't pending, or a TaskRun, is open
abbrev pub IsOpen : List Entry → Type 0
IsOpen history =
    ((name : List ℕ) × Has (run_of history name) (λ (run : RunState). (run.closed ≡ None) × (run.pending ≡ false)))
    ⊎ ((name : List ℕ) × Has (task_run_of history name) (λ (task_run : TaskRunState). task_run.closed ≡ None))

abbrev pub NeverStuck : Type 0
NeverStuck = (history : List Entry) → IsLegal history → IsOpen history → (number life moment : ℕ) → CanGoOn history number life moment ⊎ HoldsPod history
