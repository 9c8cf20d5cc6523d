-- When an entry of a task worker is justified, by what the worker sees.
use Rattle.std.specs.Prelude.{◌≡◌, ◌≢◌, ◌⊎◌, ◌≤◌, ℕ, suc, List, length, Some, None, Bool, true, false, slice_get}
use Rattle.tk_types.specs.declared.run.Start.TheVariants.{Ready}
use Rattle.tk_types.specs.declared.run.Outcome.{Outcome}
use Rattle.tk_journal.specs.declared.entry.Actor.{Actor}
use Rattle.tk_journal.specs.declared.object.Plan.{Plan}
use Rattle.tk_journal.specs.declared.object.TaskRunState.{TaskRunState}
use Rattle.tk_journal.specs.declared.object.Attempt.{Attempt}
use Rattle.tk_names.specs.Children.{pod_name}
use Rattle.tk_journal.specs.Plan.{IsPlan}
use Rattle.tk_journal.specs.Lists.{Has}
use Rattle.tk_journal.specs.History.{View}
use Rattle.tk_journal.specs.declared.entry.Actor.TheVariants as actors

pub record IsOpenAttempt (attempts : List Attempt) (place : ℕ) : Type 0 where
  pub attempt : Attempt
  pub at : slice_get attempts place ≡ Some attempt
  pub no_outcome : attempt.outcome ≡ None

abbrev pub NoneOpen : List Attempt → Type 0
NoneOpen attempts = (place : ℕ) → IsOpenAttempt attempts place → ⊥

pub record OpenRow (task_run : TaskRunState) : Type 0 where
  pub startable : task_run.spec.start ≡ Ready
  pub not_closed : task_run.closed ≡ None
  pub not_marked : task_run.marked ≡ false
  pub none_open : NoneOpen task_run.attempts
  pub more : length task_run.attempts ≤ task_run.spec.retries

pub record MakePodRow (name task_run_name : List ℕ) (attempt : ℕ) (plan : Plan) (mark : Bool) (task_run : TaskRunState) : Type 0 where
  pub place : ℕ
  pub number : attempt ≡ suc place
  pub is_open : IsOpenAttempt task_run.attempts place
  pub named : name ≡ pod_name task_run_name attempt
  pub planned : IsPlan task_run attempt plan
  pub marked : mark ≡ task_run.marked

pub record CloseAttemptRow (view : View) (name : List ℕ) (outcome : Outcome) (task_run : TaskRunState) : Type 0 where
  pub not_closed : task_run.closed ≡ None
  pub place : ℕ
  pub is_open : IsOpenAttempt task_run.attempts place
  pub pod_ended : Has (view.pod (pod_name name (suc place))) (λ pod. Has pod.ended (λ ended. ended.outcome ≡ outcome))

pub record CloseTaskRunRow (task_run : TaskRunState) : Type 0 where
  pub not_closed : task_run.closed ≡ None
  pub none_open : NoneOpen task_run.attempts
  pub over : (task_run.marked ≡ true) ⊎ (task_run.spec.start ≢ Ready)

abbrev pub IsTaskWorker : Actor → Type 0
IsTaskWorker (actors.Tasks number) = Unit {0}
IsTaskWorker _ = ⊥
