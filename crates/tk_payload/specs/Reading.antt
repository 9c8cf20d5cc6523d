-- What tokens begin with, and the tokens behind it, for an entry and each of its parts. Private: `Forms` says what is meant.
use Rattle.std.specs.Prelude.{ℕ, if◌then◌else◌, List, Option, Some, None, codes, bytes_eq}
use Rattle.json.specs.Json.{Parse}
use Rattle.tk_types.specs.Behaviour.{stop_named}
use Rattle.tk_payload.specs.Steps.{◌>>=◌, object_at, end_at, key_at, word_at, member_at, text_at, boolean_at, count_at, optional_at, listed_at}
use Rattle.tk_types.specs.declared.value.Pair.{Pair}
use Rattle.tk_types.specs.declared.value.Value.{Value}
use Rattle.tk_types.specs.declared.value.Value.TheVariants as value_kinds
use Rattle.tk_types.specs.declared.value.ParamType.{ParamType}
use Rattle.tk_types.specs.declared.value.ParamType.TheVariants as param_types
use Rattle.tk_types.specs.declared.value.Param.{Param}
use Rattle.tk_types.specs.declared.value.ParamSpec.{ParamSpec}
use Rattle.tk_types.specs.declared.value.ResultSpec.{ResultSpec}
use Rattle.tk_types.specs.declared.task.Step.{Step}
use Rattle.tk_types.specs.declared.task.SpaceSpec.{SpaceSpec}
use Rattle.tk_types.specs.declared.task.SpaceUse.{SpaceUse}
use Rattle.tk_types.specs.declared.task.Space.{Space}
use Rattle.tk_types.specs.declared.task.TaskSpec.{TaskSpec}
use Rattle.tk_types.specs.declared.task.When.{When}
use Rattle.tk_types.specs.declared.task.Matrix.{Matrix}
use Rattle.tk_types.specs.declared.task.TaskSource.{TaskSource}
use Rattle.tk_types.specs.declared.task.TaskSource.TheVariants as task_sources
use Rattle.tk_types.specs.declared.task.PipelineTask.{PipelineTask}
use Rattle.tk_types.specs.declared.task.TaskBody.{TaskBody}
use Rattle.tk_types.specs.declared.run.Start.{Start}
use Rattle.tk_types.specs.declared.run.Start.TheVariants as starts
use Rattle.tk_types.specs.declared.run.RunSpec.{RunSpec}
use Rattle.tk_types.specs.declared.object.TaskRunSpec.{TaskRunSpec}
use Rattle.tk_types.specs.declared.run.Outcome.{Outcome}
use Rattle.tk_types.specs.declared.run.Outcome.TheVariants as outcomes
use Rattle.tk_types.specs.declared.run.Stop.{Stop}
use Rattle.tk_types.specs.declared.object.Asked.{Asked}
use Rattle.tk_types.specs.declared.object.Asked.TheVariants as asks
use Rattle.tk_types.specs.declared.verdict.SkipReason.{SkipReason}
use Rattle.tk_types.specs.declared.verdict.SkipReason.TheVariants as reasons
use Rattle.tk_types.specs.declared.verdict.Condition.{Condition}
use Rattle.tk_types.specs.declared.verdict.Binding.{Binding}
use Rattle.tk_edge.specs.declared.order.Order.{Order}
use Rattle.tk_journal.specs.declared.object.Plan.{Plan}
use Rattle.tk_journal.specs.declared.act.Skip.{Skip}
use Rattle.tk_journal.specs.declared.act.Admission.{Admission}
use Rattle.tk_journal.specs.declared.act.Admission.TheVariants as admissions
use Rattle.tk_journal.specs.declared.act.Closing.{Closing}
use Rattle.tk_journal.specs.declared.act.Closing.TheVariants as closings
use Rattle.tk_journal.specs.declared.act.Act.{Act}
use Rattle.tk_journal.specs.declared.act.Act.TheVariants as acts
use Rattle.tk_journal.specs.declared.entry.Fronts.{Fronts}
use Rattle.tk_journal.specs.declared.entry.Actor.{Actor}
use Rattle.tk_journal.specs.declared.entry.Actor.TheVariants as actors
use Rattle.tk_journal.specs.declared.entry.Entry.{Entry}

unfoldable pub pair_at : Parse Pair
pair_at ts = do
  inside ← object_at ts
  key ← member_at (codes "key") text_at inside
  value ← member_at (codes "value") text_at key.1
  rest ← end_at value.1
  Some (record { key = key.0; value = value.0 }, rest)

unfoldable pub value_under : List ℕ → Parse Value
value_under name ts =
    if bytes_eq name (codes "Str") then (text_at ts >>= λ x. Some (value_kinds.Str x.0, x.1))
    else if bytes_eq name (codes "Arr") then (listed_at text_at ts >>= λ x. Some (value_kinds.Arr x.0, x.1))
    else if bytes_eq name (codes "Obj") then (listed_at pair_at ts >>= λ x. Some (value_kinds.Obj x.0, x.1))
    else None

unfoldable pub value_at : Parse Value
value_at ts = do
  inside ← object_at ts
  named ← key_at inside
  x ← value_under named.0 named.1
  rest ← end_at x.1
  Some (x.0, rest)

abbrev pub param_type_named : List ℕ → Option ParamType
param_type_named word =
    if bytes_eq word (codes "Str") then Some param_types.Str
    else if bytes_eq word (codes "Arr") then Some param_types.Arr
    else if bytes_eq word (codes "Obj") then Some param_types.Obj
    else None

unfoldable pub param_type_at : Parse ParamType
param_type_at ts = do
  word ← word_at ts
  x ← param_type_named word.0
  Some (x, word.1)

unfoldable pub param_at : Parse Param
param_at ts = do
  inside ← object_at ts
  name ← member_at (codes "name") text_at inside
  value ← member_at (codes "value") value_at name.1
  rest ← end_at value.1
  Some (record { name = name.0; value = value.0 }, rest)

unfoldable pub param_spec_at : Parse ParamSpec
param_spec_at ts = do
  inside ← object_at ts
  default_value ← member_at (codes "default_value") (optional_at value_at) inside
  kind ← member_at (codes "kind") param_type_at default_value.1
  name ← member_at (codes "name") text_at kind.1
  properties ← member_at (codes "properties") (listed_at text_at) name.1
  rest ← end_at properties.1
  Some (record { name = name.0; kind = kind.0; default_value = default_value.0; properties = properties.0 }, rest)

unfoldable pub result_spec_at : Parse ResultSpec
result_spec_at ts = do
  inside ← object_at ts
  kind ← member_at (codes "kind") param_type_at inside
  name ← member_at (codes "name") text_at kind.1
  rest ← end_at name.1
  Some (record { name = name.0; kind = kind.0 }, rest)

unfoldable pub step_at : Parse Step
step_at ts = do
  inside ← object_at ts
  args ← member_at (codes "args") (listed_at text_at) inside
  command ← member_at (codes "command") (listed_at text_at) args.1
  dir ← member_at (codes "dir") (optional_at text_at) command.1
  env ← member_at (codes "env") (listed_at pair_at) dir.1
  keep_going ← member_at (codes "keep_going") boolean_at env.1
  name ← member_at (codes "name") (optional_at text_at) keep_going.1
  script ← member_at (codes "script") (optional_at text_at) name.1
  rest ← end_at script.1
  Some (record { name = name.0; command = command.0; args = args.0; script = script.0; env = env.0; dir = dir.0; keep_going = keep_going.0 }, rest)

unfoldable pub space_spec_at : Parse SpaceSpec
space_spec_at ts = do
  inside ← object_at ts
  name ← member_at (codes "name") text_at inside
  optional ← member_at (codes "optional") boolean_at name.1
  rest ← end_at optional.1
  Some (record { name = name.0; optional = optional.0 }, rest)

unfoldable pub space_use_at : Parse SpaceUse
space_use_at ts = do
  inside ← object_at ts
  from ← member_at (codes "from") text_at inside
  name ← member_at (codes "name") text_at from.1
  sub ← member_at (codes "sub") text_at name.1
  rest ← end_at sub.1
  Some (record { name = name.0; from = from.0; sub = sub.0 }, rest)

unfoldable pub space_at : Parse Space
space_at ts = do
  inside ← object_at ts
  claim ← member_at (codes "claim") (optional_at text_at) inside
  name ← member_at (codes "name") text_at claim.1
  sub ← member_at (codes "sub") text_at name.1
  rest ← end_at sub.1
  Some (record { name = name.0; claim = claim.0; sub = sub.0 }, rest)

unfoldable pub task_spec_at : Parse TaskSpec
task_spec_at ts = do
  inside ← object_at ts
  params ← member_at (codes "params") (listed_at param_spec_at) inside
  results ← member_at (codes "results") (listed_at result_spec_at) params.1
  spaces ← member_at (codes "spaces") (listed_at space_spec_at) results.1
  steps ← member_at (codes "steps") (listed_at step_at) spaces.1
  rest ← end_at steps.1
  Some (record { params = params.0; steps = steps.0; results = results.0; spaces = spaces.0 }, rest)

unfoldable pub when_at : Parse When
when_at ts = do
  inside ← object_at ts
  input ← member_at (codes "input") text_at inside
  is_member ← member_at (codes "is_member") boolean_at input.1
  values ← member_at (codes "values") (listed_at text_at) is_member.1
  rest ← end_at values.1
  Some (record { input = input.0; is_member = is_member.0; values = values.0 }, rest)

unfoldable pub matrix_at : Parse Matrix
matrix_at ts = do
  inside ← object_at ts
  include ← member_at (codes "include") (listed_at (listed_at param_at)) inside
  params ← member_at (codes "params") (listed_at param_at) include.1
  rest ← end_at params.1
  Some (record { params = params.0; include = include.0 }, rest)

unfoldable pub task_source_under : List ℕ → Parse TaskSource
task_source_under name ts =
    if bytes_eq name (codes "Named") then (text_at ts >>= λ x. Some (task_sources.Named x.0, x.1))
    else if bytes_eq name (codes "Inlined") then (task_spec_at ts >>= λ x. Some (task_sources.Inlined x.0, x.1))
    else None

unfoldable pub task_source_at : Parse TaskSource
task_source_at ts = do
  inside ← object_at ts
  named ← key_at inside
  x ← task_source_under named.0 named.1
  rest ← end_at x.1
  Some (x.0, rest)

unfoldable pub pipeline_task_at : Parse PipelineTask
pipeline_task_at ts = do
  inside ← object_at ts
  ignore_failure ← member_at (codes "ignore_failure") boolean_at inside
  matrix ← member_at (codes "matrix") (optional_at matrix_at) ignore_failure.1
  name ← member_at (codes "name") text_at matrix.1
  params ← member_at (codes "params") (listed_at param_at) name.1
  retries ← member_at (codes "retries") (count_at 32) params.1
  run_after ← member_at (codes "run_after") (listed_at text_at) retries.1
  source ← member_at (codes "source") task_source_at run_after.1
  spaces ← member_at (codes "spaces") (listed_at space_use_at) source.1
  timeout ← member_at (codes "timeout") (count_at 64) spaces.1
  when ← member_at (codes "when") (listed_at when_at) timeout.1
  rest ← end_at when.1
  Some (record { name = name.0; source = source.0; params = params.0; matrix = matrix.0; run_after = run_after.0; when = when.0; retries = retries.0; timeout = timeout.0; ignore_failure = ignore_failure.0; spaces = spaces.0 }, rest)

unfoldable pub task_body_at : Parse TaskBody
task_body_at ts = do
  inside ← object_at ts
  bound ← member_at (codes "bound") (listed_at space_at) inside
  fallback ← member_at (codes "fallback") (listed_at param_at) bound.1
  outer ← member_at (codes "outer") (listed_at param_at) fallback.1
  spec ← member_at (codes "spec") task_spec_at outer.1
  task_name ← member_at (codes "task_name") text_at spec.1
  rest ← end_at task_name.1
  Some (record { spec = spec.0; task_name = task_name.0; outer = outer.0; fallback = fallback.0; bound = bound.0 }, rest)

abbrev pub start_named : List ℕ → Option Start
start_named word =
    if bytes_eq word (codes "Ready") then Some starts.Ready
    else None

unfoldable pub start_under : List ℕ → Parse Start
start_under name ts =
    if bytes_eq name (codes "Unstartable") then (text_at ts >>= λ x. Some (starts.Unstartable x.0, x.1))
    else None

unfoldable pub start_at : Parse Start
start_at ts = elim (word_at ts) [
  | Some word ↦ do
    x ← start_named word.0
    Some (x, word.1)
  | None ↦ do
    inside ← object_at ts
    named ← key_at inside
    x ← start_under named.0 named.1
    rest ← end_at x.1
    Some (x.0, rest)
]

unfoldable pub run_spec_at : Parse RunSpec
run_spec_at ts = do
  inside ← object_at ts
  bodies ← member_at (codes "bodies") (listed_at task_body_at) inside
  finally ← member_at (codes "finally") (listed_at pipeline_task_at) bodies.1
  finally_ms ← member_at (codes "finally_ms") (count_at 64) finally.1
  name ← member_at (codes "name") text_at finally_ms.1
  params ← member_at (codes "params") (listed_at param_at) name.1
  pipeline ← member_at (codes "pipeline") text_at params.1
  pipeline_ms ← member_at (codes "pipeline_ms") (count_at 64) pipeline.1
  results ← member_at (codes "results") (listed_at param_at) pipeline_ms.1
  start ← member_at (codes "start") start_at results.1
  tasks ← member_at (codes "tasks") (listed_at pipeline_task_at) start.1
  tasks_ms ← member_at (codes "tasks_ms") (count_at 64) tasks.1
  rest ← end_at tasks_ms.1
  Some (record { name = name.0; pipeline = pipeline.0; params = params.0; tasks = tasks.0; finally = finally.0; bodies = bodies.0; results = results.0; pipeline_ms = pipeline_ms.0; tasks_ms = tasks_ms.0; finally_ms = finally_ms.0; start = start.0 }, rest)

unfoldable pub task_run_spec_at : Parse TaskRunSpec
task_run_spec_at ts = do
  inside ← object_at ts
  body ← member_at (codes "body") task_body_at inside
  name ← member_at (codes "name") text_at body.1
  params ← member_at (codes "params") (listed_at param_at) name.1
  retries ← member_at (codes "retries") (count_at 32) params.1
  start ← member_at (codes "start") start_at retries.1
  timeout ← member_at (codes "timeout") (count_at 64) start.1
  rest ← end_at timeout.1
  Some (record { name = name.0; body = body.0; params = params.0; retries = retries.0; timeout = timeout.0; start = start.0 }, rest)

abbrev pub outcome_named : List ℕ → Option Outcome
outcome_named word =
    if bytes_eq word (codes "TimedOut") then Some outcomes.TimedOut
    else if bytes_eq word (codes "Cancelled") then Some outcomes.Cancelled
    else if bytes_eq word (codes "Lost") then Some outcomes.Lost
    else None

unfoldable pub outcome_failed_at : Parse Outcome
outcome_failed_at ts = do
  inside ← object_at ts
  exit ← member_at (codes "exit") (optional_at (count_at 8)) inside
  results ← member_at (codes "results") (listed_at param_at) exit.1
  rest ← end_at results.1
  Some (outcomes.Failed exit.0 results.0, rest)

unfoldable pub outcome_under : List ℕ → Parse Outcome
outcome_under name ts =
    if bytes_eq name (codes "Succeeded") then (listed_at param_at ts >>= λ x. Some (outcomes.Succeeded x.0, x.1))
    else if bytes_eq name (codes "Failed") then outcome_failed_at ts
    else None

unfoldable pub outcome_at : Parse Outcome
outcome_at ts = elim (word_at ts) [
  | Some word ↦ do
    x ← outcome_named word.0
    Some (x, word.1)
  | None ↦ do
    inside ← object_at ts
    named ← key_at inside
    x ← outcome_under named.0 named.1
    rest ← end_at x.1
    Some (x.0, rest)
]

unfoldable pub stop_at : Parse Stop
stop_at ts = do
  word ← word_at ts
  x ← stop_named word.0
  Some (x, word.1)

abbrev pub asked_named : List ℕ → Option Asked
asked_named word =
    if bytes_eq word (codes "Start") then Some asks.Start
    else if bytes_eq word (codes "StoppedRunFinally") then Some asks.StoppedRunFinally
    else if bytes_eq word (codes "CancelledRunFinally") then Some asks.CancelledRunFinally
    else if bytes_eq word (codes "Cancelled") then Some asks.Cancelled
    else if bytes_eq word (codes "TaskRunCancelled") then Some asks.TaskRunCancelled
    else None

unfoldable pub asked_at : Parse Asked
asked_at ts = do
  word ← word_at ts
  x ← asked_named word.0
  Some (x, word.1)

abbrev pub skip_reason_named : List ℕ → Option SkipReason
skip_reason_named word =
    if bytes_eq word (codes "Parent") then Some reasons.Parent
    else if bytes_eq word (codes "Missing") then Some reasons.Missing
    else if bytes_eq word (codes "Broken") then Some reasons.Broken
    else if bytes_eq word (codes "When") then Some reasons.When
    else if bytes_eq word (codes "EmptyMatrix") then Some reasons.EmptyMatrix
    else None

unfoldable pub skip_reason_under : List ℕ → Parse SkipReason
skip_reason_under name ts =
    if bytes_eq name (codes "Stopped") then (stop_at ts >>= λ x. Some (reasons.Stopped x.0, x.1))
    else None

unfoldable pub skip_reason_at : Parse SkipReason
skip_reason_at ts = elim (word_at ts) [
  | Some word ↦ do
    x ← skip_reason_named word.0
    Some (x, word.1)
  | None ↦ do
    inside ← object_at ts
    named ← key_at inside
    x ← skip_reason_under named.0 named.1
    rest ← end_at x.1
    Some (x.0, rest)
]

unfoldable pub condition_at : Parse Condition
condition_at ts = do
  inside ← object_at ts
  holds ← member_at (codes "holds") boolean_at inside
  reason ← member_at (codes "reason") text_at holds.1
  rest ← end_at reason.1
  Some (record { holds = holds.0; reason = reason.0 }, rest)

unfoldable pub binding_at : Parse Binding
binding_at ts = do
  inside ← object_at ts
  params ← member_at (codes "params") (listed_at param_at) inside
  rest ← end_at params.1
  Some (record { params = params.0 }, rest)

unfoldable pub order_at : Parse Order
order_at ts = do
  inside ← object_at ts
  argv ← member_at (codes "argv") (listed_at text_at) inside
  dir ← member_at (codes "dir") text_at argv.1
  env ← member_at (codes "env") (listed_at pair_at) dir.1
  pod ← member_at (codes "pod") text_at env.1
  step ← member_at (codes "step") (count_at 32) pod.1
  rest ← end_at step.1
  Some (record { pod = pod.0; step = step.0; argv = argv.0; env = env.0; dir = dir.0 }, rest)

unfoldable pub plan_at : Parse Plan
plan_at ts = do
  inside ← object_at ts
  folders ← member_at (codes "folders") (listed_at text_at) inside
  keep ← member_at (codes "keep") (count_at 32) folders.1
  orders ← member_at (codes "orders") (listed_at order_at) keep.1
  results ← member_at (codes "results") (listed_at result_spec_at) orders.1
  scripts ← member_at (codes "scripts") (listed_at text_at) results.1
  rest ← end_at scripts.1
  Some (record { orders = orders.0; scripts = scripts.0; keep = keep.0; results = results.0; folders = folders.0 }, rest)

unfoldable pub skip_at : Parse Skip
skip_at ts = do
  inside ← object_at ts
  reason ← member_at (codes "reason") skip_reason_at inside
  task ← member_at (codes "task") (count_at 32) reason.1
  rest ← end_at task.1
  Some (record { task = task.0; reason = reason.0 }, rest)

unfoldable pub admission_under : List ℕ → Parse Admission
admission_under name ts =
    if bytes_eq name (codes "Run") then (run_spec_at ts >>= λ x. Some (admissions.Run x.0, x.1))
    else if bytes_eq name (codes "Task") then (task_run_spec_at ts >>= λ x. Some (admissions.Task x.0, x.1))
    else None

unfoldable pub admission_at : Parse Admission
admission_at ts = do
  inside ← object_at ts
  named ← key_at inside
  x ← admission_under named.0 named.1
  rest ← end_at x.1
  Some (x.0, rest)

abbrev pub closing_named : List ℕ → Option Closing
closing_named word =
    if bytes_eq word (codes "TaskRun") then Some closings.TaskRun
    else None

unfoldable pub closing_run_at : Parse Closing
closing_run_at ts = do
  inside ← object_at ts
  condition ← member_at (codes "condition") condition_at inside
  results ← member_at (codes "results") (listed_at param_at) condition.1
  skipped ← member_at (codes "skipped") (listed_at skip_at) results.1
  rest ← end_at skipped.1
  Some (closings.Run condition.0 skipped.0 results.0, rest)

unfoldable pub closing_under : List ℕ → Parse Closing
closing_under name ts =
    if bytes_eq name (codes "Attempt") then (outcome_at ts >>= λ x. Some (closings.Attempt x.0, x.1))
    else if bytes_eq name (codes "Run") then closing_run_at ts
    else None

unfoldable pub closing_at : Parse Closing
closing_at ts = elim (word_at ts) [
  | Some word ↦ do
    x ← closing_named word.0
    Some (x, word.1)
  | None ↦ do
    inside ← object_at ts
    named ← key_at inside
    x ← closing_under named.0 named.1
    rest ← end_at x.1
    Some (x.0, rest)
]

unfoldable pub act_admit_at : Parse Act
act_admit_at ts = do
  inside ← object_at ts
  asked ← member_at (codes "asked") (optional_at asked_at) inside
  name ← member_at (codes "name") text_at asked.1
  pending ← member_at (codes "pending") boolean_at name.1
  root ← member_at (codes "root") text_at pending.1
  spec ← member_at (codes "spec") admission_at root.1
  rest ← end_at spec.1
  Some (acts.Admit name.0 spec.0 pending.0 asked.0 root.0, rest)

unfoldable pub act_ask_at : Parse Act
act_ask_at ts = do
  inside ← object_at ts
  name ← member_at (codes "name") text_at inside
  status ← member_at (codes "status") asked_at name.1
  rest ← end_at status.1
  Some (acts.Ask name.0 status.0, rest)

unfoldable pub act_start_at : Parse Act
act_start_at ts = do
  inside ← object_at ts
  name ← member_at (codes "name") text_at inside
  rest ← end_at name.1
  Some (acts.Start name.0, rest)

unfoldable pub act_schedule_at : Parse Act
act_schedule_at ts = do
  inside ← object_at ts
  bindings ← member_at (codes "bindings") (listed_at binding_at) inside
  name ← member_at (codes "name") text_at bindings.1
  task ← member_at (codes "task") (count_at 32) name.1
  rest ← end_at task.1
  Some (acts.Schedule name.0 task.0 bindings.0, rest)

unfoldable pub act_make_task_run_at : Parse Act
act_make_task_run_at ts = do
  inside ← object_at ts
  index ← member_at (codes "index") (count_at 32) inside
  mark ← member_at (codes "mark") boolean_at index.1
  name ← member_at (codes "name") text_at mark.1
  run ← member_at (codes "run") text_at name.1
  task ← member_at (codes "task") (count_at 32) run.1
  rest ← end_at task.1
  Some (acts.MakeTaskRun name.0 run.0 task.0 index.0 mark.0, rest)

unfoldable pub act_halt_at : Parse Act
act_halt_at ts = do
  inside ← object_at ts
  name ← member_at (codes "name") text_at inside
  stop ← member_at (codes "stop") stop_at name.1
  rest ← end_at stop.1
  Some (acts.Halt name.0 stop.0, rest)

unfoldable pub act_cancel_task_run_at : Parse Act
act_cancel_task_run_at ts = do
  inside ← object_at ts
  name ← member_at (codes "name") text_at inside
  rest ← end_at name.1
  Some (acts.CancelTaskRun name.0, rest)

unfoldable pub act_open_attempt_at : Parse Act
act_open_attempt_at ts = do
  inside ← object_at ts
  name ← member_at (codes "name") text_at inside
  rest ← end_at name.1
  Some (acts.OpenAttempt name.0, rest)

unfoldable pub act_make_pod_at : Parse Act
act_make_pod_at ts = do
  inside ← object_at ts
  attempt ← member_at (codes "attempt") (count_at 32) inside
  mark ← member_at (codes "mark") boolean_at attempt.1
  name ← member_at (codes "name") text_at mark.1
  plan ← member_at (codes "plan") plan_at name.1
  task_run ← member_at (codes "task_run") text_at plan.1
  rest ← end_at task_run.1
  Some (acts.MakePod name.0 task_run.0 attempt.0 plan.0 mark.0, rest)

unfoldable pub act_claim_pod_at : Parse Act
act_claim_pod_at ts = do
  inside ← object_at ts
  name ← member_at (codes "name") text_at inside
  rest ← end_at name.1
  Some (acts.ClaimPod name.0, rest)

unfoldable pub act_end_pod_at : Parse Act
act_end_pod_at ts = do
  inside ← object_at ts
  exits ← member_at (codes "exits") (listed_at (count_at 8)) inside
  name ← member_at (codes "name") text_at exits.1
  outcome ← member_at (codes "outcome") outcome_at name.1
  rest ← end_at outcome.1
  Some (acts.EndPod name.0 exits.0 outcome.0, rest)

unfoldable pub act_close_at : Parse Act
act_close_at ts = do
  inside ← object_at ts
  closing ← member_at (codes "closing") closing_at inside
  name ← member_at (codes "name") text_at closing.1
  rest ← end_at name.1
  Some (acts.Close name.0 closing.0, rest)

unfoldable pub act_under : List ℕ → Parse Act
act_under name ts =
    if bytes_eq name (codes "Admit") then act_admit_at ts
    else if bytes_eq name (codes "Ask") then act_ask_at ts
    else if bytes_eq name (codes "Start") then act_start_at ts
    else if bytes_eq name (codes "Schedule") then act_schedule_at ts
    else if bytes_eq name (codes "MakeTaskRun") then act_make_task_run_at ts
    else if bytes_eq name (codes "Halt") then act_halt_at ts
    else if bytes_eq name (codes "CancelTaskRun") then act_cancel_task_run_at ts
    else if bytes_eq name (codes "OpenAttempt") then act_open_attempt_at ts
    else if bytes_eq name (codes "MakePod") then act_make_pod_at ts
    else if bytes_eq name (codes "ClaimPod") then act_claim_pod_at ts
    else if bytes_eq name (codes "EndPod") then act_end_pod_at ts
    else if bytes_eq name (codes "Close") then act_close_at ts
    else None

unfoldable pub act_at : Parse Act
act_at ts = do
  inside ← object_at ts
  named ← key_at inside
  x ← act_under named.0 named.1
  rest ← end_at x.1
  Some (x.0, rest)

unfoldable pub fronts_at : Parse Fronts
fronts_at ts = do
  inside ← object_at ts
  pods ← member_at (codes "pods") (count_at 64) inside
  runs ← member_at (codes "runs") (count_at 64) pods.1
  task_runs ← member_at (codes "task_runs") (count_at 64) runs.1
  rest ← end_at task_runs.1
  Some (record { runs = runs.0; task_runs = task_runs.0; pods = pods.0 }, rest)

abbrev pub actor_named : List ℕ → Option Actor
actor_named word =
    if bytes_eq word (codes "Admission") then Some actors.Admission
    else if bytes_eq word (codes "User") then Some actors.User
    else None

unfoldable pub actor_kubelet_at : Parse Actor
actor_kubelet_at ts = do
  inside ← object_at ts
  life ← member_at (codes "life") (count_at 32) inside
  number ← member_at (codes "number") (count_at 32) life.1
  rest ← end_at number.1
  Some (actors.Kubelet number.0 life.0, rest)

unfoldable pub actor_under : List ℕ → Parse Actor
actor_under name ts =
    if bytes_eq name (codes "Runs") then (count_at 32 ts >>= λ x. Some (actors.Runs x.0, x.1))
    else if bytes_eq name (codes "Tasks") then (count_at 32 ts >>= λ x. Some (actors.Tasks x.0, x.1))
    else if bytes_eq name (codes "Kubelet") then actor_kubelet_at ts
    else None

unfoldable pub actor_at : Parse Actor
actor_at ts = elim (word_at ts) [
  | Some word ↦ do
    x ← actor_named word.0
    Some (x, word.1)
  | None ↦ do
    inside ← object_at ts
    named ← key_at inside
    x ← actor_under named.0 named.1
    rest ← end_at x.1
    Some (x.0, rest)
]

unfoldable pub entry_at : Parse Entry
entry_at ts = do
  inside ← object_at ts
  act ← member_at (codes "act") act_at inside
  actor ← member_at (codes "actor") actor_at act.1
  fronts ← member_at (codes "fronts") fronts_at actor.1
  moment ← member_at (codes "moment") (count_at 64) fronts.1
  rest ← end_at moment.1
  Some (record { actor = actor.0; fronts = fronts.0; moment = moment.0; act = act.0 }, rest)
