-- The parts together are what is asked of an admitted run and of an admitted TaskRun.
use Rattle.std.proofs.Common.{◌≡◌, ◌≤◌, ◌++◌, ℕ, List, All, Option, IsTrue, get_or}
use Rattle.std.specs.Prelude.{flat_map}
use Rattle.std.specs.List.{list_all}
use Rattle.std.proofs.lemmas.List.Elements.{All-append, All-weaker}
use Rattle.tk_types.specs.Behaviour.{tasks_of}
use Rattle.tk_types.specs.Limits.{most_combinations, most_retries}
use Rattle.tk_types.specs.declared.object.Asked.{Asked}
use Rattle.tk_types.specs.declared.object.TaskRunSpec.{TaskRunSpec}
use Rattle.tk_types.specs.declared.run.RunSpec.{RunSpec}
use Rattle.tk_types.specs.declared.run.Start.TheVariants.{Ready}
use Rattle.tk_types.specs.declared.task.PipelineTask.{PipelineTask}
use Rattle.tk_types.specs.declared.task.Step.{Step}
use Rattle.tk_types.specs.declared.task.TaskBody.{TaskBody}
use Rattle.tk_vars.specs.Reading.{HasReading}
use Rattle.tk_graph.specs.Parents.{parent_names}
use Rattle.tk_graph.specs.Results.{params_texts, task_texts}
use Rattle.tk_graph.specs.Unknown.{is_known}
use Rattle.tk_bind.specs.Fits.{fits, step_texts}
use Rattle.tk_bind.specs.Readings.{ReadsStep}
use Rattle.tk_names.specs.Rules.{is_dns_label}
use Rattle.tk_verdict.specs.Gives.{has_entry}
use Rattle.tk_verdict.specs.WellFormed.{facts_texts}
use Rattle.tk_journal.specs.Names.{possible_of}
use Rattle.tk_journal.specs.Sound.{HasSteps, IsSoundRun, IsSoundTaskRun, bare, longest_duration}
use Rattle.tk_spec_sound.specs.Parts.{AreSoundParts, IsSoundBody, IsSoundHead, IsSoundTask, IsSoundTaskRunHead, IsSoundWhole}
use Rattle.tk_spec_sound.proofs.Every.{all_back, all_front, all_inside, all_outside, all_true, each_true}
use Rattle.tk_spec_sound.proofs.Readings.{params_read, params_texts_read, steps_read, steps_texts_read}

-- what holds of each task that is sound, and of each body
of_tasks : (spec : RunSpec) (P : PipelineTask → Type 0) → AreSoundParts spec → ((task : PipelineTask) → IsSoundTask spec task → P task) → All P (tasks_of spec)
of_tasks spec P parts holds = All-weaker (IsSoundTask spec) P holds (tasks_of spec) parts.tasks

abbrev body_texts : TaskBody → List (List ℕ)
body_texts body = flat_map step_texts body.spec.steps

abbrev ReadsTexts : PipelineTask → Type 0
ReadsTexts task = All HasReading (task_texts task)

abbrev ReadsBodyTexts : TaskBody → Type 0
ReadsBodyTexts body = All HasReading (body_texts body)

body_reads : (spec : RunSpec) (body : TaskBody) → IsSoundBody spec.start body → ReadsBodyTexts body
body_reads spec body sound = all_outside HasReading step_texts body.spec.steps (steps_texts_read body.spec.steps sound.readable)

readable : (spec : RunSpec) → AreSoundParts spec → All HasReading (facts_texts (bare spec))
readable spec parts =
    let tasks = flat_map task_texts (tasks_of spec) in
    let bodies = flat_map body_texts spec.bodies in
    All-append HasReading (tasks ++ bodies) (params_texts spec.results)
    (All-append HasReading tasks bodies
    (all_outside HasReading task_texts (tasks_of spec) (of_tasks spec ReadsTexts parts (λ task sound. sound.readable)))
    (all_outside HasReading body_texts spec.bodies (All-weaker (IsSoundBody spec.start) ReadsBodyTexts (body_reads spec) spec.bodies parts.bodies)))
    (params_texts_read spec.results parts.results)

pub run_is : (name : List ℕ) (asked : Option Asked) (spec : RunSpec) → IsSoundHead name asked spec → IsSoundWhole spec → AreSoundParts spec → IsSoundRun name asked spec
run_is name asked spec head whole parts = record {
  named = head.named;
  is_name = head.is_name;
  are_labels = all_true (λ (task : PipelineTask). is_dns_label task.name) (tasks_of spec) (of_tasks spec (λ task. IsTrue (is_dns_label task.name)) parts (λ task sound. sound.form.is_label));
  tasks = record {
    few_tasks = head.few_tasks;
    names_differ = whole.names_differ;
    one_body_each = head.one_body_each;
    parents_exist = of_tasks spec (λ task. IsTrue (list_all (is_known spec.tasks) (parent_names task))) parts (λ task sound. sound.parents_exist);
    acyclic = whole.acyclic;
    readable = readable spec parts;
    entries = all_true has_entry (tasks_of spec) (of_tasks spec (λ task. IsTrue (has_entry task)) parts (λ task sound. sound.form.entry));
    steps = All-weaker (IsSoundBody spec.start) (HasSteps spec.start) (λ body sound. sound.steps) spec.bodies parts.bodies;
    few_retries = of_tasks spec (λ task. task.retries ≤ most_retries) parts (λ task sound. sound.form.few_retries);
  };
  few_children = of_tasks spec (λ task. possible_of spec task ≤ most_combinations) parts (λ task sound. sound.few_children);
  asked_stops = head.asked_stops;
  timeouts = head.timeouts;
  task_timeouts = of_tasks spec (λ task. task.timeout ≤ longest_duration) parts (λ task sound. sound.form.timeout);
}

pub head_of : (name : List ℕ) (asked : Option Asked) (spec : RunSpec) → IsSoundRun name asked spec → IsSoundHead name asked spec
head_of name asked spec sound = record {
  named = sound.named;
  is_name = sound.is_name;
  asked_stops = sound.asked_stops;
  timeouts = sound.timeouts;
  few_tasks = sound.tasks.few_tasks;
  one_body_each = sound.tasks.one_body_each;
}

pub whole_of : (name : List ℕ) (asked : Option Asked) (spec : RunSpec) → IsSoundRun name asked spec → IsSoundWhole spec
whole_of name asked spec sound = record { names_differ = sound.tasks.names_differ; acyclic = sound.tasks.acyclic }

module _ (name : List ℕ) (asked : Option Asked) (spec : RunSpec) (sound : IsSoundRun name asked spec) where
  of_task_texts : All ReadsTexts (tasks_of spec)
  of_task_texts =
      let tasks = flat_map task_texts (tasks_of spec) in
      let bodies = flat_map body_texts spec.bodies in
      all_inside HasReading task_texts (tasks_of spec) (all_front HasReading tasks bodies (all_front HasReading (tasks ++ bodies) (params_texts spec.results) sound.tasks.readable))

  of_body_texts : All ReadsBodyTexts spec.bodies
  of_body_texts =
      let tasks = flat_map task_texts (tasks_of spec) in
      let bodies = flat_map body_texts spec.bodies in
      all_inside HasReading body_texts spec.bodies (all_back HasReading tasks bodies (all_front HasReading (tasks ++ bodies) (params_texts spec.results) sound.tasks.readable))

  of_results : All HasReading (params_texts spec.results)
  of_results = all_back HasReading (flat_map task_texts (tasks_of spec) ++ flat_map body_texts spec.bodies) (params_texts spec.results) sound.tasks.readable

  pub parts_of : AreSoundParts spec
  parts_of =
      let labels = each_true (λ (task : PipelineTask). is_dns_label task.name) (tasks_of spec) sound.are_labels in
      let entries = each_true has_entry (tasks_of spec) sound.tasks.entries in
      record {
        tasks = λ k d within. record {
          form = record {
            is_label = labels k d within;
            entry = entries k d within;
            few_retries = sound.tasks.few_retries k d within;
            timeout = sound.task_timeouts k d within;
          };
          readable = of_task_texts k d within;
          parents_exist = sound.tasks.parents_exist k d within;
          few_children = sound.few_children k d within;
        };
        bodies = λ k d within.
            let steps : List Step = (get_or spec.bodies k d).spec.steps in
            record {
              steps = sound.tasks.steps k d within;
              readable = steps_read steps (all_inside HasReading step_texts steps (of_body_texts k d within));
            };
        results = params_read spec.results of_results;
      }

-- a TaskRun
pub task_run_is : (name : List ℕ) (asked : Option Asked) (spec : TaskRunSpec) → IsSoundTaskRunHead name asked spec → All ReadsStep spec.body.spec.steps
    → (spec.start ≡ Ready → IsTrue (fits spec.body spec.params)) → IsSoundTaskRun name asked spec
task_run_is name asked spec head reads fit = record {
  named = head.named;
  is_name = head.is_name;
  readable = steps_texts_read spec.body.spec.steps reads;
  steps = head.steps;
  fit = fit;
  asked_cancelled = head.asked_cancelled;
  few_retries = head.few_retries;
  timeout = head.timeout;
}

pub task_run_head_of : (name : List ℕ) (asked : Option Asked) (spec : TaskRunSpec) → IsSoundTaskRun name asked spec → IsSoundTaskRunHead name asked spec
task_run_head_of name asked spec sound = record {
  named = sound.named;
  is_name = sound.is_name;
  asked_cancelled = sound.asked_cancelled;
  few_retries = sound.few_retries;
  timeout = sound.timeout;
  steps = sound.steps;
}

pub task_run_reads : (name : List ℕ) (asked : Option Asked) (spec : TaskRunSpec) → IsSoundTaskRun name asked spec → All ReadsStep spec.body.spec.steps
task_run_reads name asked spec sound = steps_read spec.body.spec.steps sound.readable
