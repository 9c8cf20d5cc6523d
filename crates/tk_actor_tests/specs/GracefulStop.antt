-- The history of a run `r` with the tasks `a` (which has a retry) and `b` (which runs after it), and with `f` in `finally`, as one
-- controller and one kubelet write it that always see all: the first attempt of `a` fails, and a user asks for a graceful stop.
use Rattle.std.specs.Prelude.{◌≡◌, ℕ, List, [], ◌∷◌, length, Some, None, false, codes}
use Rattle.tk_types.specs.declared.object.Asked.TheVariants as asks
use Rattle.tk_types.specs.declared.run.Outcome.{Outcome}
use Rattle.tk_types.specs.declared.run.Outcome.TheVariants.{Succeeded, Failed}
use Rattle.tk_types.specs.declared.run.RunSpec.{RunSpec}
use Rattle.tk_types.specs.declared.run.Start.TheVariants.{Ready}
use Rattle.tk_types.specs.declared.run.Stop.TheVariants as stops
use Rattle.tk_types.specs.declared.task.PipelineTask.{PipelineTask}
use Rattle.tk_types.specs.declared.task.TaskBody.{TaskBody}
use Rattle.tk_types.specs.declared.task.TaskSource.TheVariants.{Inlined}
use Rattle.tk_types.specs.declared.verdict.Binding.{Binding}
use Rattle.tk_types.specs.declared.verdict.SkipReason.TheVariants.{Stopped}
use Rattle.tk_journal.specs.declared.entry.Actor.TheVariants as actors
use Rattle.tk_journal.specs.declared.act.Admission.TheVariants as admissions
use Rattle.tk_journal.specs.declared.act.Closing.{Closing}
use Rattle.tk_journal.specs.declared.act.Closing.TheVariants as closings
use Rattle.tk_journal.specs.declared.act.Act.TheVariants as acts
use Rattle.tk_journal.specs.declared.entry.Entry.{Entry}
use Rattle.tk_journal.specs.declared.object.Plan.{Plan}
use Rattle.tk_journal.specs.declared.object.Ending.TheVariants as endings
use Rattle.tk_journal.specs.declared.object.RunState.{RunState}
use Rattle.tk_journal.specs.declared.object.TaskRunState.{TaskRunState}
use Rattle.tk_journal.specs.History.{run_of, task_run_of}
use Rattle.tk_journal.specs.Lists.{Has}
use Rattle.tk_journal.specs.RowOne.{body_a, by}

abbrev pub task_of : List ℕ → List (List ℕ) → ℕ → PipelineTask
task_of name run_after retries = record {
  name = name;
  source = Inlined body_a;
  params = [];
  matrix = None;
  run_after = run_after;
  when = [];
  retries = retries;
  timeout = 0;
  ignore_failure = false;
  spaces = [];
}

abbrev pub task_a : PipelineTask
task_a = task_of (codes "a") [] 1

abbrev pub task_b : PipelineTask
task_b = task_of (codes "b") (codes "a" ∷ []) 0

abbrev pub task_f : PipelineTask
task_f = task_of (codes "f") [] 0

abbrev pub body_of : List ℕ → TaskBody
body_of name = record { spec = body_a; task_name = name; outer = []; fallback = []; bound = [] }

abbrev pub run_r : RunSpec
run_r = record {
  name = codes "r";
  pipeline = codes "r";
  params = [];
  tasks = task_a ∷ task_b ∷ [];
  finally = task_f ∷ [];
  bodies = body_of (codes "a") ∷ body_of (codes "b") ∷ body_of (codes "f") ∷ [];
  results = [];
  pipeline_ms = 3600000;
  tasks_ms = 0;
  finally_ms = 0;
  start = Ready;
}

-- of a pod with this name and folder
abbrev pub plan_of_pod : List ℕ → List ℕ → Plan
plan_of_pod pod folder = record {
  orders = record { pod = pod; step = 0; argv = codes "true" ∷ []; env = []; dir = folder } ∷ [];
  scripts = [] ∷ [];
  keep = 0;
  results = [];
  folders = [];
}

abbrev pub failed : Outcome
failed = Failed (Some 1) []

abbrev pub closing_r : Closing
closing_r = closings.Run (record { holds = false; reason = codes "Cancelled" }) (record { task = 1; reason = Stopped stops.StoppedRunFinally } ∷ []) []

abbrev pub e1 : Entry
e1 = by actors.Admission 0 (acts.Admit (codes "r") (admissions.Run run_r) false None (codes "/work"))

abbrev pub e2 : Entry
e2 = by (actors.Runs 0) 1 (acts.Start (codes "r"))

abbrev pub e3 : Entry
e3 = by (actors.Runs 0) 2 (acts.Schedule (codes "r") 0 (record { params = [] } ∷ []))

abbrev pub e4 : Entry
e4 = by (actors.Runs 0) 3 (acts.MakeTaskRun (codes "r-a") (codes "r") 0 0 false)

abbrev pub e5 : Entry
e5 = by (actors.Tasks 0) 4 (acts.OpenAttempt (codes "r-a"))

abbrev pub e6 : Entry
e6 = by (actors.Tasks 0) 5 (acts.MakePod (codes "r-a-pod-1") (codes "r-a") 1 (plan_of_pod (codes "r-a-pod-1") (codes "/work/r-a-pod-1")) false)

abbrev pub e7 : Entry
e7 = by (actors.Kubelet 0 1) 6 (acts.ClaimPod (codes "r-a-pod-1"))

-- the user asks while the pod runs
abbrev pub e8 : Entry
e8 = by actors.User 7 (acts.Ask (codes "r") asks.StoppedRunFinally)

abbrev pub e9 : Entry
e9 = by (actors.Runs 0) 8 (acts.Halt (codes "r") stops.StoppedRunFinally)

abbrev pub e10 : Entry
e10 = by (actors.Kubelet 0 1) 9 (acts.EndPod (codes "r-a-pod-1") (1 ∷ []) failed)

-- the TaskRun stays open, since a retry is left; the stop keeps a child that was made
abbrev pub e11 : Entry
e11 = by (actors.Tasks 0) 10 (acts.Close (codes "r-a") (closings.Attempt failed))

abbrev pub e12 : Entry
e12 = by (actors.Tasks 0) 11 (acts.OpenAttempt (codes "r-a"))

abbrev pub e13 : Entry
e13 = by (actors.Tasks 0) 12 (acts.MakePod (codes "r-a-pod-2") (codes "r-a") 2 (plan_of_pod (codes "r-a-pod-2") (codes "/work/r-a-pod-2")) false)

abbrev pub e14 : Entry
e14 = by (actors.Kubelet 0 1) 13 (acts.ClaimPod (codes "r-a-pod-2"))

abbrev pub e15 : Entry
e15 = by (actors.Kubelet 0 1) 14 (acts.EndPod (codes "r-a-pod-2") (0 ∷ []) (Succeeded []))

abbrev pub e16 : Entry
e16 = by (actors.Tasks 0) 15 (acts.Close (codes "r-a") (closings.Attempt (Succeeded [])))

-- `b` is skipped, since the stop is recorded
abbrev pub e17 : Entry
e17 = by (actors.Runs 0) 16 (acts.Schedule (codes "r") 2 (record { params = [] } ∷ []))

abbrev pub e18 : Entry
e18 = by (actors.Runs 0) 17 (acts.MakeTaskRun (codes "r-f") (codes "r") 2 0 false)

abbrev pub e19 : Entry
e19 = by (actors.Tasks 0) 18 (acts.OpenAttempt (codes "r-f"))

abbrev pub e20 : Entry
e20 = by (actors.Tasks 0) 19 (acts.MakePod (codes "r-f-pod-1") (codes "r-f") 1 (plan_of_pod (codes "r-f-pod-1") (codes "/work/r-f-pod-1")) false)

abbrev pub e21 : Entry
e21 = by (actors.Kubelet 0 1) 20 (acts.ClaimPod (codes "r-f-pod-1"))

abbrev pub e22 : Entry
e22 = by (actors.Kubelet 0 1) 21 (acts.EndPod (codes "r-f-pod-1") (0 ∷ []) (Succeeded []))

abbrev pub e23 : Entry
e23 = by (actors.Tasks 0) 22 (acts.Close (codes "r-f") (closings.Attempt (Succeeded [])))

abbrev pub e24 : Entry
e24 = by (actors.Runs 0) 23 (acts.Close (codes "r") closing_r)

-- the history up to a position, the newest first

abbrev pub h4 : List Entry
h4 = e4 ∷ e3 ∷ e2 ∷ e1 ∷ []

abbrev pub h7 : List Entry
h7 = e7 ∷ e6 ∷ e5 ∷ h4

abbrev pub h9 : List Entry
h9 = e9 ∷ e8 ∷ h7

abbrev pub h12 : List Entry
h12 = e12 ∷ e11 ∷ e10 ∷ h9

abbrev pub h16 : List Entry
h16 = e16 ∷ e15 ∷ e14 ∷ e13 ∷ h12

abbrev pub h23 : List Entry
h23 = e23 ∷ e22 ∷ e21 ∷ e20 ∷ e19 ∷ e18 ∷ e17 ∷ h16

-- from admission to the end
abbrev pub graceful_stop : List Entry
graceful_stop = e24 ∷ h23

-- a Schedule of `b` once the stop is recorded and `a` is over

abbrev pub of_b : List Binding
of_b = record { params = [] } ∷ []

abbrev pub scheduled_b : Entry
scheduled_b = by (actors.Runs 0) 16 (acts.Schedule (codes "r") 1 of_b)

-- the TaskRun is Succeeded after so many attempts
abbrev pub IsSucceededAfter : ℕ → TaskRunState → Type 0
IsSucceededAfter count task_run = (length task_run.attempts ≡ count) × (task_run.closed ≡ Some (endings.Of (Succeeded [])))

-- what it leaves: the run is False Cancelled, with `b` skipped and no results; `a` took two attempts, `f` one
pub record LeavesStopped (history : List Entry) : Type 0 where
  pub closed : Has (run_of history (codes "r")) (λ (run : RunState). run.closed ≡ Some closing_r)
  pub a_twice : Has (task_run_of history (codes "r-a")) (IsSucceededAfter 2)
  pub f_once : Has (task_run_of history (codes "r-f")) (IsSucceededAfter 1)
  pub no_b : task_run_of history (codes "r-b") ≡ None
