-- What an entry does to the object that it writes.
use Rattle.std.specs.Prelude.{ℕ, ◌+◌, List, [], ◌∷◌, ◌++◌, length, Option, Some, None, Bool, true, false, ◌&&◌, nat_lt, nat_le, bytes_eq, nat_eq, slice_get, map, if◌then◌else◌}
use Rattle.tk_types.specs.declared.run.RunSpec.{RunSpec}
use Rattle.tk_types.specs.declared.run.Start.{Start}
use Rattle.tk_types.specs.declared.run.Start.TheVariants.{Ready, Unstartable}
use Rattle.tk_types.specs.declared.run.Outcome.{Outcome}
use Rattle.tk_types.specs.declared.run.Outcome.TheVariants.{Succeeded, Failed, TimedOut, Lost}
use Rattle.tk_types.specs.declared.run.Outcome.TheVariants as outcomes
use Rattle.tk_types.specs.declared.task.PipelineTask.{PipelineTask}
use Rattle.tk_types.specs.declared.task.TaskBody.{TaskBody}
use Rattle.tk_types.specs.declared.verdict.Binding.{Binding}
use Rattle.tk_types.specs.declared.scenario.Kind.{Kind}
use Rattle.tk_types.specs.declared.scenario.Kind.TheVariants as kinds
use Rattle.tk_journal.specs.declared.entry.Actor.{Actor}
use Rattle.tk_journal.specs.declared.entry.Actor.TheVariants as actors
use Rattle.tk_types.specs.declared.object.Asked.{Asked}
use Rattle.tk_types.specs.declared.object.Asked.TheVariants as asks
use Rattle.tk_journal.specs.declared.act.Admission.{Admission}
use Rattle.tk_journal.specs.declared.act.Admission.TheVariants as admissions
use Rattle.tk_journal.specs.declared.act.Closing.{Closing}
use Rattle.tk_journal.specs.declared.act.Closing.TheVariants as closings
use Rattle.tk_journal.specs.declared.act.Act.{Act}
use Rattle.tk_journal.specs.declared.act.Act.TheVariants as acts
use Rattle.tk_journal.specs.declared.entry.Entry.{Entry}
use Rattle.tk_journal.specs.declared.object.RunState.{RunState}
use Rattle.tk_journal.specs.declared.object.Scheduled.{Scheduled}
use Rattle.tk_journal.specs.declared.object.TaskRunState.{TaskRunState}
use Rattle.tk_journal.specs.declared.object.Attempt.{Attempt}
use Rattle.tk_journal.specs.declared.object.Ending.{Ending}
use Rattle.tk_journal.specs.declared.object.Ending.TheVariants as endings
use Rattle.tk_journal.specs.declared.object.PodState.{PodState}
use Rattle.tk_journal.specs.declared.object.Claim.{Claim}
use Rattle.tk_journal.specs.Names.{task_at}

-- which object an entry writes

abbrev pub name_of : Act → List ℕ
name_of (acts.Admit name spec pending asked root) = name
name_of (acts.Ask name status) = name
name_of (acts.Start name) = name
name_of (acts.Schedule name task bindings) = name
name_of (acts.MakeTaskRun name run task index mark) = name
name_of (acts.Halt name stop) = name
name_of (acts.CancelTaskRun name) = name
name_of (acts.OpenAttempt name) = name
name_of (acts.MakePod name task_run attempt plan mark) = name
name_of (acts.ClaimPod name) = name
name_of (acts.EndPod name exits outcome) = name
name_of (acts.Close name closing) = name

abbrev pub kind_of_admission : Admission → Kind
kind_of_admission (admissions.Run spec) = kinds.Runs
kind_of_admission (admissions.Task spec) = kinds.TaskRuns

abbrev pub kind_of_asked : Asked → Kind
kind_of_asked asks.TaskRunCancelled = kinds.TaskRuns
kind_of_asked asks.Start = kinds.Runs
kind_of_asked asks.StoppedRunFinally = kinds.Runs
kind_of_asked asks.CancelledRunFinally = kinds.Runs
kind_of_asked asks.Cancelled = kinds.Runs

abbrev pub kind_of_closing : Closing → Kind
kind_of_closing (closings.Attempt outcome) = kinds.TaskRuns
kind_of_closing closings.TaskRun = kinds.TaskRuns
kind_of_closing (closings.Run condition skipped results) = kinds.Runs

abbrev pub kind_of : Act → Kind
kind_of (acts.Admit name spec pending asked root) = kind_of_admission spec
kind_of (acts.Ask name status) = kind_of_asked status
kind_of (acts.Start name) = kinds.Runs
kind_of (acts.Schedule name task bindings) = kinds.Runs
kind_of (acts.MakeTaskRun name run task index mark) = kinds.TaskRuns
kind_of (acts.Halt name stop) = kinds.Runs
kind_of (acts.CancelTaskRun name) = kinds.TaskRuns
kind_of (acts.OpenAttempt name) = kinds.TaskRuns
kind_of (acts.MakePod name task_run attempt plan mark) = kinds.Pods
kind_of (acts.ClaimPod name) = kinds.Pods
kind_of (acts.EndPod name exits outcome) = kinds.Pods
kind_of (acts.Close name closing) = kind_of_closing closing

abbrev pub same_kind : Kind → Kind → Bool
same_kind kinds.Runs kinds.Runs = true
same_kind kinds.TaskRuns kinds.TaskRuns = true
same_kind kinds.Pods kinds.Pods = true
same_kind _ _ = false

abbrev pub writes : Kind → List ℕ → Entry → Bool
writes kind name e = same_kind kind (kind_of e.act) && bytes_eq (name_of e.act) name

-- it makes the object that it writes
abbrev pub is_create : Act → Bool
is_create (acts.Admit name spec pending asked root) = true
is_create (acts.MakeTaskRun name run task index mark) = true
is_create (acts.MakePod name task_run attempt plan mark) = true
is_create _ = false

-- runs

-- `tasks` first, then `finally`
abbrev pub is_final : RunSpec → ℕ → Bool
is_final spec task = nat_le (length spec.tasks) task

abbrev pub task_count : RunSpec → ℕ
task_count spec = length spec.tasks + length spec.finally

abbrev pub asked_list : Option Asked → List Asked
asked_list None = []
asked_list (Some status) = status ∷ []

abbrev pub admitted_run : RunSpec → Bool → Option Asked → List ℕ → RunState
admitted_run spec pending asked root = record {
  spec = spec;
  root = root;
  pending = pending;
  asked = asked_list asked;
  start = None;
  finally_start = None;
  stops = [];
  scheduled = [];
  closed = None;
}

abbrev pub run_admitted : Admission → Bool → Option Asked → List ℕ → Option RunState
run_admitted (admissions.Run spec) pending asked root = Some (admitted_run spec pending asked root)
run_admitted (admissions.Task spec) pending asked root = None

abbrev pub run_made : Act → Option RunState
run_made (acts.Admit name spec pending asked root) = run_admitted spec pending asked root
run_made _ = None

abbrev pub finally_start_after : Bool → Option ℕ → ℕ → Option ℕ
finally_start_after true None moment = Some moment
finally_start_after true (Some before) moment = Some before
finally_start_after false before moment = before

abbrev pub run_after : ℕ → Act → RunState → RunState
run_after moment (acts.Ask name status) run = record run { pending = false; asked = run.asked ++ status ∷ [] }
run_after moment (acts.Start name) run = record run { start = Some moment }
run_after moment (acts.Schedule name task bindings) run = record run {
  finally_start = finally_start_after (is_final run.spec task) run.finally_start moment;
  scheduled = run.scheduled ++ record { task = task; bindings = bindings } ∷ [];
}
run_after moment (acts.Halt name stop) run = record run { stops = run.stops ++ stop ∷ [] }
run_after moment (acts.Close name closing) run = record run { closed = Some closing }
run_after moment _ run = run

-- TaskRuns

abbrev pub marks : Option Asked → Bool
marks (Some asks.TaskRunCancelled) = true
marks _ = false

abbrev pub task_run_admitted : Admission → Option Asked → List ℕ → Option TaskRunState
task_run_admitted (admissions.Run spec) asked root = None
task_run_admitted (admissions.Task spec) asked root = Some record {
  spec = spec;
  root = root;
  run = None;
  pipeline = [];
  task = 0;
  index = 0;
  binding = record { params = spec.params };
  marked = marks asked;
  attempts = [];
  closed = None;
}

-- the bindings that the run has for a task's children
abbrev pub bindings_for : ℕ → List Scheduled → List Binding
bindings_for task [] = []
bindings_for task (s ∷ ss) = if nat_eq s.task task then s.bindings else bindings_for task ss

-- a child as its run has it
abbrev pub child_from : List ℕ → List ℕ → RunState → ℕ → ℕ → Bool → Option Binding → Option TaskBody → Option PipelineTask → Option TaskRunState
child_from name run_name run task index mark (Some binding) (Some body) (Some pipeline_task) = Some record {
  spec = record {
    name = name;
    body = body;
    params = binding.params;
    retries = pipeline_task.retries;
    timeout = pipeline_task.timeout;
    start = Ready;
  };
  root = run.root;
  run = Some run_name;
  pipeline = run.spec.pipeline;
  task = task;
  index = index;
  binding = binding;
  marked = mark;
  attempts = [];
  closed = None;
}
child_from name run_name run task index mark None body pipeline_task = None
child_from name run_name run task index mark (Some binding) None pipeline_task = None
child_from name run_name run task index mark (Some binding) (Some body) None = None

abbrev pub child_made : List ℕ → List ℕ → ℕ → ℕ → Bool → Option RunState → Option TaskRunState
child_made name run_name task index mark None = None
child_made name run_name task index mark (Some run) =
    child_from name run_name run task index mark (slice_get (bindings_for task run.scheduled) index) (slice_get run.spec.bodies task) (task_at run.spec task)

-- the runs are those of one position earlier
abbrev pub task_run_made : (List ℕ → Option RunState) → Act → Option TaskRunState
task_run_made runs (acts.Admit name spec pending asked root) = task_run_admitted spec asked root
task_run_made runs (acts.MakeTaskRun name run task index mark) = child_made name run task index mark (runs run)
task_run_made runs _ = None

abbrev pub outcome_kept : Option Outcome → Outcome → Option Outcome
outcome_kept None outcome = Some outcome
outcome_kept (Some before) outcome = Some before

-- the open attempt gets its outcome
abbrev pub attempt_closed : Outcome → Attempt → Attempt
attempt_closed outcome attempt = record attempt { outcome = outcome_kept attempt.outcome outcome }

abbrev pub attempts_closed : Outcome → List Attempt → List Attempt
attempts_closed outcome attempts = map (attempt_closed outcome) attempts

-- how an attempt that failed so ends its TaskRun: as the last one permitted, or since the TaskRun is marked
abbrev pub ending_after : TaskRunState → Outcome → Option Ending
ending_after task_run outcome =
    if nat_lt task_run.spec.retries (length task_run.attempts) then Some (endings.Of outcome)
    else if task_run.marked then Some (endings.Of outcomes.Cancelled) else None

abbrev pub ending_of_attempt : TaskRunState → Outcome → Option Ending
ending_of_attempt task_run (Succeeded results) = Some (endings.Of (Succeeded results))
ending_of_attempt task_run outcomes.Cancelled = Some (endings.Of outcomes.Cancelled)
ending_of_attempt task_run (Failed exit results) = ending_after task_run (Failed exit results)
ending_of_attempt task_run TimedOut = ending_after task_run TimedOut
ending_of_attempt task_run Lost = ending_after task_run Lost

abbrev pub ending_without_attempt : Start → Ending
ending_without_attempt Ready = endings.Of outcomes.Cancelled
ending_without_attempt (Unstartable reason) = endings.Unstartable reason

abbrev pub task_run_closed : Closing → TaskRunState → TaskRunState
task_run_closed (closings.Attempt outcome) task_run =
    record task_run { attempts = attempts_closed outcome task_run.attempts; closed = ending_of_attempt task_run outcome }
task_run_closed closings.TaskRun task_run = record task_run { closed = Some (ending_without_attempt task_run.spec.start) }
task_run_closed (closings.Run condition skipped results) task_run = task_run

abbrev pub task_run_after : ℕ → Act → TaskRunState → TaskRunState
task_run_after moment (acts.Ask name status) task_run = record task_run { marked = true }
task_run_after moment (acts.CancelTaskRun name) task_run = record task_run { marked = true }
task_run_after moment (acts.OpenAttempt name) task_run = record task_run { attempts = task_run.attempts ++ record { moment = moment; outcome = None } ∷ [] }
task_run_after moment (acts.Close name closing) task_run = task_run_closed closing task_run
task_run_after moment _ task_run = task_run

-- pods

abbrev pub pod_made : Act → Option PodState
pod_made (acts.MakePod name task_run attempt plan mark) =
    Some record { task_run = task_run; attempt = attempt; plan = plan; marked = mark; claim = None; ended = None }
pod_made _ = None

-- the kubelet that acts
abbrev pub claim_of : Actor → Option Claim
claim_of (actors.Kubelet number life) = Some record { number = number; life = life }
claim_of _ = None

abbrev pub pod_after : Actor → Act → PodState → PodState
pod_after actor (acts.ClaimPod name) pod = record pod { claim = claim_of actor }
pod_after actor (acts.EndPod name exits outcome) pod = record pod { ended = Some record { exits = exits; outcome = outcome } }
pod_after actor _ pod = pod
