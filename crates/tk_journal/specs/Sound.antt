-- What admission gives: an admitted run or TaskRun keeps to these rules, whoever wrote the journal.
use Rattle.std.specs.Prelude.{◌≡◌, ◌≢◌, ◌<◌, ◌≤◌, ◌+◌, ℕ, List, [], length, Option, Some, All, AllPairs, IsTrue}
use Rattle.std.specs.List.{list_all}
use Rattle.tk_types.specs.declared.object.Asked.{Asked}
use Rattle.tk_types.specs.declared.object.Asked.TheVariants.{TaskRunCancelled}
use Rattle.tk_types.specs.declared.object.TaskRunSpec.{TaskRunSpec}
use Rattle.tk_types.specs.declared.run.Facts.{Facts}
use Rattle.tk_types.specs.declared.run.RunSpec.{RunSpec}
use Rattle.tk_types.specs.declared.run.Start.{Start}
use Rattle.tk_types.specs.declared.run.Start.TheVariants.{Ready}
use Rattle.tk_types.specs.declared.task.PipelineTask.{PipelineTask}
use Rattle.tk_types.specs.declared.task.Step.{Step}
use Rattle.tk_types.specs.declared.task.TaskBody.{TaskBody}
use Rattle.tk_types.specs.Limits.{most_tasks, most_steps, most_retries, most_combinations}
use Rattle.tk_vars.specs.Reading.{HasReading}
use Rattle.tk_graph.specs.Parents.{parent_names, IsAcyclic}
use Rattle.tk_graph.specs.Unknown.{is_known}
use Rattle.tk_bind.specs.Fits.{fits, step_texts}
use Rattle.tk_names.specs.Rules.{is_dns_label, is_object_name}
use Rattle.tk_verdict.specs.Gives.{has_entry}
use Rattle.tk_verdict.specs.WellFormed.{facts_texts}
use Rattle.tk_journal.specs.declared.act.Admission.{Admission}
use Rattle.tk_journal.specs.declared.act.Admission.TheVariants.{Run, Task}
use Rattle.tk_journal.specs.Lists.{IsThere}
use Rattle.tk_types.specs.Behaviour.{tasks_of}
use Rattle.tk_journal.specs.Names.{possible_of}
use Rattle.tk_journal.specs.Stops.{asked_stop}

-- a year of 365 days, in milliseconds
abbrev pub longest_duration : ℕ
longest_duration = 31536000000

-- nothing is known yet of a run but its spec
abbrev pub bare : RunSpec → Facts
bare spec = record { spec = spec; stops = []; children = [] }

-- a body has few steps, and one at least where it is to run
pub record HasSteps (start : Start) (body : TaskBody) : Type 0 where
  pub few : length body.spec.steps ≤ most_steps
  pub some : start ≡ Ready → 0 < length body.spec.steps

-- the texts of a body's steps have readings
abbrev pub ReadsSteps : TaskBody → Type 0
ReadsSteps body = All (λ (step : Step). All HasReading (step_texts step)) body.spec.steps

-- the tasks are few, with names that differ and parents that exist, without a cycle; there is one body a task; texts have
-- readings; each matrix has an entry; each body has steps; retries are few
pub record IsSoundSpec (spec : RunSpec) : Type 0 where
  pub few_tasks : length spec.tasks + length spec.finally ≤ most_tasks
  pub names_differ : AllPairs (λ (a b : PipelineTask). a.name ≢ b.name) (tasks_of spec)
  pub one_body_each : length spec.bodies ≡ length spec.tasks + length spec.finally
  pub parents_exist : All (λ (task : PipelineTask). IsTrue (list_all (is_known spec.tasks) (parent_names task))) (tasks_of spec)
  pub acyclic : IsAcyclic spec.tasks
  pub readable : All HasReading (facts_texts (bare spec))
  pub entries : IsTrue (list_all has_entry (tasks_of spec))
  pub steps : All (HasSteps spec.start) spec.bodies
  pub few_retries : All (λ (task : PipelineTask). task.retries ≤ most_retries) (tasks_of spec)

pub record IsSoundRun (name : List ℕ) (asked : Option Asked) (spec : RunSpec) : Type 0 where
  pub named : spec.name ≡ name
  pub is_name : IsTrue (is_object_name name)
  pub are_labels : IsTrue (list_all (λ (task : PipelineTask). is_dns_label task.name) (tasks_of spec))
  pub tasks : IsSoundSpec spec
  pub few_children : All (λ (task : PipelineTask). possible_of spec task ≤ most_combinations) (tasks_of spec)
  pub asked_stops : (status : Asked) → asked ≡ Some status → IsThere (asked_stop status)
  pub timeouts : (spec.pipeline_ms ≤ longest_duration) × (spec.tasks_ms ≤ longest_duration) × (spec.finally_ms ≤ longest_duration)
  pub task_timeouts : All (λ (task : PipelineTask). task.timeout ≤ longest_duration) (tasks_of spec)

pub record IsSoundTaskRun (name : List ℕ) (asked : Option Asked) (spec : TaskRunSpec) : Type 0 where
  pub named : spec.name ≡ name
  pub is_name : IsTrue (is_object_name name)
  pub readable : ReadsSteps spec.body
  pub steps : HasSteps spec.start spec.body
  pub fit : spec.start ≡ Ready → IsTrue (fits spec.body spec.params)
  pub asked_cancelled : (status : Asked) → asked ≡ Some status → status ≡ TaskRunCancelled
  pub few_retries : spec.retries ≤ most_retries
  pub timeout : spec.timeout ≤ longest_duration

abbrev pub IsSound : List ℕ → Option Asked → Admission → Type 0
IsSound name asked (Run spec) = IsSoundRun name asked spec
IsSound name asked (Task spec) = IsSoundTaskRun name asked spec
