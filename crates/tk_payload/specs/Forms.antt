-- What an entry and its parts are as JSON: an object of the fields, in the order of their names; an array of the
-- elements; null, or the value; a variant without fields by its name, and another under its name.
use Rattle.std.specs.Prelude.{ℕ, List, [], ◌∷◌, Option, Some, None, codes, decimal}
use Rattle.json.specs.Json.{Json, null, boolean, number, string, array, object, Items, no_items, item, Members, no_members, member}
use Rattle.json.specs.Print.{print}
use Rattle.json.specs.Tree.{json_tokens}
use Rattle.tk_types.specs.Behaviour.{stop_name}
use Rattle.tk_types.specs.declared.value.Pair.{Pair}
use Rattle.tk_types.specs.declared.value.Value.{Value}
use Rattle.tk_types.specs.declared.value.Value.TheVariants as value_kinds
use Rattle.tk_types.specs.declared.value.ParamType.{ParamType}
use Rattle.tk_types.specs.declared.value.ParamType.TheVariants as param_types
use Rattle.tk_types.specs.declared.value.Param.{Param}
use Rattle.tk_types.specs.declared.value.ParamSpec.{ParamSpec}
use Rattle.tk_types.specs.declared.value.ResultSpec.{ResultSpec}
use Rattle.tk_types.specs.declared.task.Step.{Step}
use Rattle.tk_types.specs.declared.task.SpaceSpec.{SpaceSpec}
use Rattle.tk_types.specs.declared.task.SpaceUse.{SpaceUse}
use Rattle.tk_types.specs.declared.task.Space.{Space}
use Rattle.tk_types.specs.declared.task.TaskSpec.{TaskSpec}
use Rattle.tk_types.specs.declared.task.When.{When}
use Rattle.tk_types.specs.declared.task.Matrix.{Matrix}
use Rattle.tk_types.specs.declared.task.TaskSource.{TaskSource}
use Rattle.tk_types.specs.declared.task.TaskSource.TheVariants as task_sources
use Rattle.tk_types.specs.declared.task.PipelineTask.{PipelineTask}
use Rattle.tk_types.specs.declared.task.TaskBody.{TaskBody}
use Rattle.tk_types.specs.declared.run.Start.{Start}
use Rattle.tk_types.specs.declared.run.Start.TheVariants as starts
use Rattle.tk_types.specs.declared.run.RunSpec.{RunSpec}
use Rattle.tk_types.specs.declared.object.TaskRunSpec.{TaskRunSpec}
use Rattle.tk_types.specs.declared.run.Outcome.{Outcome}
use Rattle.tk_types.specs.declared.run.Outcome.TheVariants as outcomes
use Rattle.tk_types.specs.declared.run.Stop.{Stop}
use Rattle.tk_types.specs.declared.object.Asked.{Asked}
use Rattle.tk_types.specs.declared.object.Asked.TheVariants as asks
use Rattle.tk_types.specs.declared.verdict.SkipReason.{SkipReason}
use Rattle.tk_types.specs.declared.verdict.SkipReason.TheVariants as reasons
use Rattle.tk_types.specs.declared.verdict.Condition.{Condition}
use Rattle.tk_types.specs.declared.verdict.Binding.{Binding}
use Rattle.tk_edge.specs.declared.order.Order.{Order}
use Rattle.tk_journal.specs.declared.object.Plan.{Plan}
use Rattle.tk_journal.specs.declared.act.Skip.{Skip}
use Rattle.tk_journal.specs.declared.act.Admission.{Admission}
use Rattle.tk_journal.specs.declared.act.Admission.TheVariants as admissions
use Rattle.tk_journal.specs.declared.act.Closing.{Closing}
use Rattle.tk_journal.specs.declared.act.Closing.TheVariants as closings
use Rattle.tk_journal.specs.declared.act.Act.{Act}
use Rattle.tk_journal.specs.declared.act.Act.TheVariants as acts
use Rattle.tk_journal.specs.declared.entry.Fronts.{Fronts}
use Rattle.tk_journal.specs.declared.entry.Actor.{Actor}
use Rattle.tk_journal.specs.declared.entry.Actor.TheVariants as actors
use Rattle.tk_journal.specs.declared.entry.Entry.{Entry}

-- a number in decimal
abbrev pub count : ℕ → Json
count n = number (decimal n)

abbrev pub optional : {X : Type 0} → (X → Json) → Option X → Json
optional json None = null
optional json (Some x) = json x

abbrev pub listed_items : {X : Type 0} → (X → Json) → List X → Items
listed_items json [] = no_items
listed_items json (x ∷ xs) = item (json x) (listed_items json xs)

-- an array of the elements
abbrev pub listed : {X : Type 0} → (X → Json) → List X → Json
listed json xs = array (listed_items json xs)

abbrev pub members : List (List ℕ × Json) → Members
members [] = no_members
members (m ∷ ms) = member m.0 m.1 (members ms)

-- an object of these members
abbrev pub fields : List (List ℕ × Json) → Json
fields ms = object (members ms)

-- the value under a variant's name
abbrev pub under : List ℕ → Json → Json
under name j = fields ((name, j) ∷ [])

abbrev pub pair_json : Pair → Json
pair_json x = fields ((codes "key", string x.key) ∷ (codes "value", string x.value) ∷ [])

abbrev pub value_json : Value → Json
value_json (value_kinds.Str x) = under (codes "Str") (string x)
value_json (value_kinds.Arr x) = under (codes "Arr") (listed string x)
value_json (value_kinds.Obj x) = under (codes "Obj") (listed pair_json x)

abbrev pub param_type_word : ParamType → List ℕ
param_type_word param_types.Str = codes "Str"
param_type_word param_types.Arr = codes "Arr"
param_type_word param_types.Obj = codes "Obj"

abbrev pub param_type_json : ParamType → Json
param_type_json x = string (param_type_word x)

abbrev pub param_json : Param → Json
param_json x = fields ((codes "name", string x.name) ∷ (codes "value", value_json x.value) ∷ [])

abbrev pub param_spec_json : ParamSpec → Json
param_spec_json x = fields ((codes "default_value", optional value_json x.default_value) ∷ (codes "kind", param_type_json x.kind) ∷ (codes "name", string x.name) ∷ (codes "properties", listed string x.properties) ∷ [])

abbrev pub result_spec_json : ResultSpec → Json
result_spec_json x = fields ((codes "kind", param_type_json x.kind) ∷ (codes "name", string x.name) ∷ [])

abbrev pub step_json : Step → Json
step_json x = fields ((codes "args", listed string x.args) ∷ (codes "command", listed string x.command) ∷ (codes "dir", optional string x.dir) ∷ (codes "env", listed pair_json x.env) ∷ (codes "keep_going", boolean x.keep_going) ∷ (codes "name", optional string x.name) ∷ (codes "script", optional string x.script) ∷ [])

abbrev pub space_spec_json : SpaceSpec → Json
space_spec_json x = fields ((codes "name", string x.name) ∷ (codes "optional", boolean x.optional) ∷ [])

abbrev pub space_use_json : SpaceUse → Json
space_use_json x = fields ((codes "from", string x.from) ∷ (codes "name", string x.name) ∷ (codes "sub", string x.sub) ∷ [])

abbrev pub space_json : Space → Json
space_json x = fields ((codes "claim", optional string x.claim) ∷ (codes "name", string x.name) ∷ (codes "sub", string x.sub) ∷ [])

abbrev pub task_spec_json : TaskSpec → Json
task_spec_json x = fields ((codes "params", listed param_spec_json x.params) ∷ (codes "results", listed result_spec_json x.results) ∷ (codes "spaces", listed space_spec_json x.spaces) ∷ (codes "steps", listed step_json x.steps) ∷ [])

abbrev pub when_json : When → Json
when_json x = fields ((codes "input", string x.input) ∷ (codes "is_member", boolean x.is_member) ∷ (codes "values", listed string x.values) ∷ [])

abbrev pub matrix_json : Matrix → Json
matrix_json x = fields ((codes "include", listed (listed param_json) x.include) ∷ (codes "params", listed param_json x.params) ∷ [])

abbrev pub task_source_json : TaskSource → Json
task_source_json (task_sources.Named x) = under (codes "Named") (string x)
task_source_json (task_sources.Inlined x) = under (codes "Inlined") (task_spec_json x)

abbrev pub pipeline_task_json : PipelineTask → Json
pipeline_task_json x = fields ((codes "ignore_failure", boolean x.ignore_failure) ∷ (codes "matrix", optional matrix_json x.matrix) ∷ (codes "name", string x.name) ∷ (codes "params", listed param_json x.params) ∷ (codes "retries", count x.retries) ∷ (codes "run_after", listed string x.run_after) ∷ (codes "source", task_source_json x.source) ∷ (codes "spaces", listed space_use_json x.spaces) ∷ (codes "timeout", count x.timeout) ∷ (codes "when", listed when_json x.when) ∷ [])

abbrev pub task_body_json : TaskBody → Json
task_body_json x = fields ((codes "bound", listed space_json x.bound) ∷ (codes "fallback", listed param_json x.fallback) ∷ (codes "outer", listed param_json x.outer) ∷ (codes "spec", task_spec_json x.spec) ∷ (codes "task_name", string x.task_name) ∷ [])

abbrev pub start_json : Start → Json
start_json starts.Ready = string (codes "Ready")
start_json (starts.Unstartable x) = under (codes "Unstartable") (string x)

abbrev pub run_spec_json : RunSpec → Json
run_spec_json x = fields ((codes "bodies", listed task_body_json x.bodies) ∷ (codes "finally", listed pipeline_task_json x.finally) ∷ (codes "finally_ms", count x.finally_ms) ∷ (codes "name", string x.name) ∷ (codes "params", listed param_json x.params) ∷ (codes "pipeline", string x.pipeline) ∷ (codes "pipeline_ms", count x.pipeline_ms) ∷ (codes "results", listed param_json x.results) ∷ (codes "start", start_json x.start) ∷ (codes "tasks", listed pipeline_task_json x.tasks) ∷ (codes "tasks_ms", count x.tasks_ms) ∷ [])

abbrev pub task_run_spec_json : TaskRunSpec → Json
task_run_spec_json x = fields ((codes "body", task_body_json x.body) ∷ (codes "name", string x.name) ∷ (codes "params", listed param_json x.params) ∷ (codes "retries", count x.retries) ∷ (codes "start", start_json x.start) ∷ (codes "timeout", count x.timeout) ∷ [])

abbrev pub outcome_json : Outcome → Json
outcome_json (outcomes.Succeeded x) = under (codes "Succeeded") (listed param_json x)
outcome_json (outcomes.Failed exit results) = under (codes "Failed") (fields ((codes "exit", optional count exit) ∷ (codes "results", listed param_json results) ∷ []))
outcome_json outcomes.TimedOut = string (codes "TimedOut")
outcome_json outcomes.Cancelled = string (codes "Cancelled")
outcome_json outcomes.Lost = string (codes "Lost")

abbrev pub stop_json : Stop → Json
stop_json x = string (stop_name x)

abbrev pub asked_word : Asked → List ℕ
asked_word asks.Start = codes "Start"
asked_word asks.StoppedRunFinally = codes "StoppedRunFinally"
asked_word asks.CancelledRunFinally = codes "CancelledRunFinally"
asked_word asks.Cancelled = codes "Cancelled"
asked_word asks.TaskRunCancelled = codes "TaskRunCancelled"

abbrev pub asked_json : Asked → Json
asked_json x = string (asked_word x)

abbrev pub skip_reason_json : SkipReason → Json
skip_reason_json reasons.Parent = string (codes "Parent")
skip_reason_json reasons.Missing = string (codes "Missing")
skip_reason_json reasons.Broken = string (codes "Broken")
skip_reason_json reasons.When = string (codes "When")
skip_reason_json reasons.EmptyMatrix = string (codes "EmptyMatrix")
skip_reason_json (reasons.Stopped x) = under (codes "Stopped") (stop_json x)

abbrev pub condition_json : Condition → Json
condition_json x = fields ((codes "holds", boolean x.holds) ∷ (codes "reason", string x.reason) ∷ [])

abbrev pub binding_json : Binding → Json
binding_json x = fields ((codes "params", listed param_json x.params) ∷ [])

abbrev pub order_json : Order → Json
order_json x = fields ((codes "argv", listed string x.argv) ∷ (codes "dir", string x.dir) ∷ (codes "env", listed pair_json x.env) ∷ (codes "pod", string x.pod) ∷ (codes "step", count x.step) ∷ [])

abbrev pub plan_json : Plan → Json
plan_json x = fields ((codes "folders", listed string x.folders) ∷ (codes "keep", count x.keep) ∷ (codes "orders", listed order_json x.orders) ∷ (codes "results", listed result_spec_json x.results) ∷ (codes "scripts", listed string x.scripts) ∷ [])

abbrev pub skip_json : Skip → Json
skip_json x = fields ((codes "reason", skip_reason_json x.reason) ∷ (codes "task", count x.task) ∷ [])

abbrev pub admission_json : Admission → Json
admission_json (admissions.Run x) = under (codes "Run") (run_spec_json x)
admission_json (admissions.Task x) = under (codes "Task") (task_run_spec_json x)

abbrev pub closing_json : Closing → Json
closing_json (closings.Attempt x) = under (codes "Attempt") (outcome_json x)
closing_json closings.TaskRun = string (codes "TaskRun")
closing_json (closings.Run condition skipped results) = under (codes "Run") (fields ((codes "condition", condition_json condition) ∷ (codes "results", listed param_json results) ∷ (codes "skipped", listed skip_json skipped) ∷ []))

abbrev pub act_json : Act → Json
act_json (acts.Admit name spec pending asked root) = under (codes "Admit") (fields ((codes "asked", optional asked_json asked) ∷ (codes "name", string name) ∷ (codes "pending", boolean pending) ∷ (codes "root", string root) ∷ (codes "spec", admission_json spec) ∷ []))
act_json (acts.Ask name status) = under (codes "Ask") (fields ((codes "name", string name) ∷ (codes "status", asked_json status) ∷ []))
act_json (acts.Start name) = under (codes "Start") (fields ((codes "name", string name) ∷ []))
act_json (acts.Schedule name task bindings) = under (codes "Schedule") (fields ((codes "bindings", listed binding_json bindings) ∷ (codes "name", string name) ∷ (codes "task", count task) ∷ []))
act_json (acts.MakeTaskRun name run task index mark) = under (codes "MakeTaskRun") (fields ((codes "index", count index) ∷ (codes "mark", boolean mark) ∷ (codes "name", string name) ∷ (codes "run", string run) ∷ (codes "task", count task) ∷ []))
act_json (acts.Halt name stop) = under (codes "Halt") (fields ((codes "name", string name) ∷ (codes "stop", stop_json stop) ∷ []))
act_json (acts.CancelTaskRun name) = under (codes "CancelTaskRun") (fields ((codes "name", string name) ∷ []))
act_json (acts.OpenAttempt name) = under (codes "OpenAttempt") (fields ((codes "name", string name) ∷ []))
act_json (acts.MakePod name task_run attempt plan mark) = under (codes "MakePod") (fields ((codes "attempt", count attempt) ∷ (codes "mark", boolean mark) ∷ (codes "name", string name) ∷ (codes "plan", plan_json plan) ∷ (codes "task_run", string task_run) ∷ []))
act_json (acts.ClaimPod name) = under (codes "ClaimPod") (fields ((codes "name", string name) ∷ []))
act_json (acts.EndPod name exits outcome) = under (codes "EndPod") (fields ((codes "exits", listed count exits) ∷ (codes "name", string name) ∷ (codes "outcome", outcome_json outcome) ∷ []))
act_json (acts.Close name closing) = under (codes "Close") (fields ((codes "closing", closing_json closing) ∷ (codes "name", string name) ∷ []))

abbrev pub fronts_json : Fronts → Json
fronts_json x = fields ((codes "pods", count x.pods) ∷ (codes "runs", count x.runs) ∷ (codes "task_runs", count x.task_runs) ∷ [])

abbrev pub actor_json : Actor → Json
actor_json actors.Admission = string (codes "Admission")
actor_json actors.User = string (codes "User")
actor_json (actors.Runs x) = under (codes "Runs") (count x)
actor_json (actors.Tasks x) = under (codes "Tasks") (count x)
actor_json (actors.Kubelet of life) = under (codes "Kubelet") (fields ((codes "life", count life) ∷ (codes "number", count of) ∷ []))

abbrev pub entry_json : Entry → Json
entry_json x = fields ((codes "act", act_json x.act) ∷ (codes "actor", actor_json x.actor) ∷ (codes "fronts", fronts_json x.fronts) ∷ (codes "moment", count x.moment) ∷ [])

-- the text of an entry: its JSON with no space
unfoldable pub entry_text : Entry → List ℕ
entry_text x = print (json_tokens (entry_json x))
