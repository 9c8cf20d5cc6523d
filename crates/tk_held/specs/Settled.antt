-- Which held pods are settled: those that are marked, or whose attempt is late, by what the kubelet sees.
use Rattle.std.specs.Prelude.{◌-◌, ◌+◌, ℕ, Bool, false, ◌&&◌, ◌||◌, nat_eq, nat_lt, nat_le, if◌then◌else◌, List, Option, Some, None, slice_get}
use Rattle.tk_journal.specs.declared.object.Attempt.{Attempt}
use Rattle.tk_journal.specs.declared.object.PodState.{PodState}
use Rattle.tk_journal.specs.declared.object.TaskRunState.{TaskRunState}
use Rattle.tk_journal.specs.History.{View}
use Rattle.tk_held.specs.declared.judging.Settled.{Settled}
use Rattle.tk_held.specs.declared.judging.Settled.TheVariants as settled_

-- the attempt of a number, counted from 1
abbrev pub attempt_at : ℕ → List Attempt → Option Attempt
attempt_at number attempts = if nat_eq number 0 then None else slice_get attempts (number - 1)

-- a timeout of 0 is none
abbrev pub is_late_attempt : ℕ → ℕ → Option Attempt → Bool
is_late_attempt timeout moment None = false
is_late_attempt timeout moment (Some attempt) = nat_lt 0 timeout && nat_le (attempt.moment + timeout) moment

abbrev pub is_marked_run : Option TaskRunState → Bool
is_marked_run None = false
is_marked_run (Some task_run) = task_run.marked

abbrev pub is_late_run : ℕ → ℕ → Option TaskRunState → Bool
is_late_run number moment None = false
is_late_run number moment (Some task_run) = is_late_attempt task_run.spec.timeout moment (attempt_at number task_run.attempts)

-- marked goes before late
abbrev pub settled_pod : ℕ → PodState → Option TaskRunState → Option Settled
settled_pod moment pod task_run =
    if pod.marked || is_marked_run task_run then Some settled_.Cancelled
    else if is_late_run pod.attempt moment task_run then Some settled_.TimedOut else None

abbrev pub settled_by : (List ℕ → Option TaskRunState) → ℕ → Option PodState → Option Settled
settled_by task_runs moment None = None
settled_by task_runs moment (Some pod) = settled_pod moment pod (task_runs pod.task_run)

-- how the pod of this name is settled, by what is seen at a moment
abbrev pub settled_in : View → ℕ → List ℕ → Option Settled
settled_in view moment name = settled_by view.task_run moment (view.pod name)
