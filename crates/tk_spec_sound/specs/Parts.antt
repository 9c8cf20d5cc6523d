-- What is asked of an admitted run, part by part: of its head, of its tasks among each other, of each task and of each body.
use Rattle.std.specs.Prelude.{◌≡◌, ◌≢◌, ◌+◌, ◌≤◌, ℕ, List, length, Option, Some, All, AllPairs, IsTrue}
use Rattle.std.specs.List.{list_all}
use Rattle.tk_types.specs.Behaviour.{tasks_of}
use Rattle.tk_types.specs.Limits.{most_combinations, most_retries, most_tasks}
use Rattle.tk_types.specs.declared.object.Asked.{Asked}
use Rattle.tk_types.specs.declared.object.Asked.TheVariants.{TaskRunCancelled}
use Rattle.tk_types.specs.declared.object.TaskRunSpec.{TaskRunSpec}
use Rattle.tk_types.specs.declared.run.RunSpec.{RunSpec}
use Rattle.tk_types.specs.declared.run.Start.{Start}
use Rattle.tk_types.specs.declared.task.PipelineTask.{PipelineTask}
use Rattle.tk_types.specs.declared.task.TaskBody.{TaskBody}
use Rattle.tk_vars.specs.Reading.{HasReading}
use Rattle.tk_graph.specs.Parents.{IsAcyclic, parent_names}
use Rattle.tk_graph.specs.Results.{task_texts}
use Rattle.tk_graph.specs.Unknown.{is_known}
use Rattle.tk_bind.specs.Readings.{ReadsParams, ReadsStep}
use Rattle.tk_names.specs.Rules.{is_dns_label, is_object_name}
use Rattle.tk_verdict.specs.Gives.{has_entry}
use Rattle.tk_journal.specs.Lists.{IsThere}
use Rattle.tk_journal.specs.Names.{possible_of}
use Rattle.tk_journal.specs.Sound.{HasSteps, longest_duration}
use Rattle.tk_journal.specs.Stops.{asked_stop}

-- its name, what it is asked for, its timeouts, and how many tasks and bodies there are
pub record IsSoundHead (name : List ℕ) (asked : Option Asked) (spec : RunSpec) : Type 0 where
  pub named : spec.name ≡ name
  pub is_name : IsTrue (is_object_name name)
  pub asked_stops : (status : Asked) → asked ≡ Some status → IsThere (asked_stop status)
  pub timeouts : (spec.pipeline_ms ≤ longest_duration) × (spec.tasks_ms ≤ longest_duration) × (spec.finally_ms ≤ longest_duration)
  pub few_tasks : length spec.tasks + length spec.finally ≤ most_tasks
  pub one_body_each : length spec.bodies ≡ length spec.tasks + length spec.finally

-- names differ, and no task waits for itself
pub record IsSoundWhole (spec : RunSpec) : Type 0 where
  pub names_differ : AllPairs (λ (a b : PipelineTask). a.name ≢ b.name) (tasks_of spec)
  pub acyclic : IsAcyclic spec.tasks

-- a task by itself
pub record HasSoundForm (task : PipelineTask) : Type 0 where
  pub is_label : IsTrue (is_dns_label task.name)
  pub entry : IsTrue (has_entry task)
  pub few_retries : task.retries ≤ most_retries
  pub timeout : task.timeout ≤ longest_duration

-- a task of the run: its texts have readings, its parents exist, and its children are few
pub record IsSoundTask (spec : RunSpec) (task : PipelineTask) : Type 0 where
  pub form : HasSoundForm task
  pub readable : All HasReading (task_texts task)
  pub parents_exist : IsTrue (list_all (is_known spec.tasks) (parent_names task))
  pub few_children : possible_of spec task ≤ most_combinations

-- a body: it has few steps, enough to start, and their texts have readings
pub record IsSoundBody (start : Start) (body : TaskBody) : Type 0 where
  pub steps : HasSteps start body
  pub readable : All ReadsStep body.spec.steps

-- each task, those of `finally` too, each body and each result
pub record AreSoundParts (spec : RunSpec) : Type 0 where
  pub tasks : All (IsSoundTask spec) (tasks_of spec)
  pub bodies : All (IsSoundBody spec.start) spec.bodies
  pub results : ReadsParams spec.results

-- of a standalone TaskRun all but readings and what its parameters fit
pub record IsSoundTaskRunHead (name : List ℕ) (asked : Option Asked) (spec : TaskRunSpec) : Type 0 where
  pub named : spec.name ≡ name
  pub is_name : IsTrue (is_object_name name)
  pub asked_cancelled : (status : Asked) → asked ≡ Some status → status ≡ TaskRunCancelled
  pub few_retries : spec.retries ≤ most_retries
  pub timeout : spec.timeout ≤ longest_duration
  pub steps : HasSteps spec.start spec.body
