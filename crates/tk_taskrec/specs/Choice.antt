-- What a task worker does at what it sees: the first act that a TaskRun gives rise to, in order of creation.
use Rattle.std.specs.Prelude.{ℕ, suc, List, length, map, Option, Some, None, Bool, true, false, not, ◌||◌, is_some, nat_le, option_map, if◌then◌else◌}
use Rattle.tk_types.specs.declared.run.Start.{Start}
use Rattle.tk_types.specs.declared.run.Start.TheVariants.{Ready, Unstartable}
use Rattle.tk_names.specs.Children.{pod_name}
use Rattle.tk_journal.specs.declared.act.Act.{Act}
use Rattle.tk_journal.specs.declared.act.Act.TheVariants as acts
use Rattle.tk_journal.specs.declared.act.Closing.TheVariants as closings
use Rattle.tk_journal.specs.declared.object.Plan.{Plan}
use Rattle.tk_journal.specs.declared.object.TaskRunState.{TaskRunState}
use Rattle.tk_journal.specs.declared.object.PodState.{PodState}
use Rattle.tk_journal.specs.declared.object.EndedPod.{EndedPod}
use Rattle.tk_journal.specs.History.{View}
use Rattle.tk_journal.specs.Plan.{plan_of}
use Rattle.tk_task_cache.specs.Acting.{open_from}
use Rattle.tk_choice.specs.First.{first_act}

abbrev pub starts_ready : Start → Bool
starts_ready Ready = true
starts_ready (Unstartable reason) = false

-- an ended pod closes its attempt
abbrev pub close_by : List ℕ → Option EndedPod → Option Act
close_by name None = None
close_by name (Some ended) = Some (acts.Close name (closings.Attempt ended.outcome))

-- a TaskRun that isn't closed and has no open attempt: it closes where it is marked or can't start, or else may try once more
abbrev pub act_without : List ℕ → TaskRunState → Option Act
act_without name task_run =
    if task_run.marked || not (starts_ready task_run.spec.start) then Some (acts.Close name closings.TaskRun)
    else if nat_le (length task_run.attempts) task_run.spec.retries then Some (acts.OpenAttempt name)
    else None

-- the pod of an attempt
abbrev pub make_pod : List ℕ → TaskRunState → ℕ → Plan → Act
make_pod name task_run attempt plan = acts.MakePod (pod_name name attempt) name attempt plan task_run.marked

-- an open attempt: its pod is made, or is waited for, or has ended
abbrev pub act_by_pod : List ℕ → TaskRunState → ℕ → Option PodState → Option Act
act_by_pod name task_run attempt None = option_map (make_pod name task_run attempt) (plan_of task_run attempt)
act_by_pod name task_run attempt (Some pod) = close_by name pod.ended

abbrev pub act_by_open : View → List ℕ → TaskRunState → Option ℕ → Option Act
act_by_open view name task_run (Some place) = act_by_pod name task_run (suc place) (view.pod (pod_name name (suc place)))
act_by_open view name task_run None = act_without name task_run

-- of one TaskRun
abbrev pub act_of : View → List ℕ → TaskRunState → Option Act
act_of view name task_run = if is_some task_run.closed then None else act_by_open view name task_run (open_from 0 task_run.attempts)

abbrev pub act_at : View → List ℕ → Option TaskRunState → Option Act
act_at view name None = None
act_at view name (Some task_run) = act_of view name task_run

-- of the TaskRun of this name
abbrev pub act_named : View → List ℕ → Option Act
act_named view name = act_at view name (view.task_run name)

abbrev pub choice_among : View → List (List ℕ) → Option Act
choice_among view names = first_act (map (act_named view) names)

-- the first act that a TaskRun gives rise to
abbrev pub choice : View → Option Act
choice view = choice_among view view.task_runs
