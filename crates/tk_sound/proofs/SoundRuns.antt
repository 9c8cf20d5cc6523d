-- Each run and each standalone TaskRun that is taken in is sound.
use Rattle.std.proofs.Common.{◌≡◌, ◌⊎◌, inl, inr, ℕ, ◌+◌, ◌≤◌, Bool, true, false, List, [], ◌∷◌, ◌++◌, length, map, Option, Some, None, refl, sym, ap, subst, arith}
use Rattle.std.specs.Prelude.{All, if◌then◌else◌, nat_lt, option_and_then, option_map, option_to_list, unwrap_or}
use Rattle.std.specs.List.{list_all}
use Rattle.std.specs.Option.{ForSome}
use Rattle.std.proofs.lemmas.Bool.{and_from, ltb-false}
use Rattle.std.proofs.lemmas.List.Elements.{All-append, All-head, All-map, All-nil, All-same, All-tail, All-weaker}
use Rattle.std.proofs.lemmas.Option.{none-some, same_Some}
use Rattle.tk_types.specs.declared.object.Asked.{Asked}
use Rattle.tk_types.specs.declared.object.Asked.TheVariants.{Start as StartAsked, StoppedRunFinally, CancelledRunFinally, Cancelled, TaskRunCancelled}
use Rattle.tk_types.specs.declared.object.Given3.{Given3}
use Rattle.tk_types.specs.declared.object.Item.{Item}
use Rattle.tk_types.specs.declared.object.ItemObject.{ItemObject}
use Rattle.tk_types.specs.declared.object.ItemObject.TheVariants.{Task as TaskObject, Pipeline, TaskRun, PipelineRun, Outcomes, Scenario}
use Rattle.tk_types.specs.declared.object.RunObject.{RunObject}
use Rattle.tk_types.specs.declared.object.TaskRunObject.{TaskRunObject}
use Rattle.tk_types.specs.declared.object.TaskRunSpec.{TaskRunSpec}
use Rattle.tk_types.specs.declared.run.RunSpec.{RunSpec}
use Rattle.tk_types.specs.declared.run.Start.TheVariants.{Ready}
use Rattle.tk_types.specs.declared.task.Matrix.{Matrix}
use Rattle.tk_types.specs.declared.task.PipelineTask.{PipelineTask}
use Rattle.tk_types.specs.declared.task.Step.{Step}
use Rattle.tk_types.specs.declared.task.TaskBody.{TaskBody}
use Rattle.tk_types.specs.declared.value.Pair.{Pair}
use Rattle.tk_types.specs.Behaviour.{tasks_of}
use Rattle.tk_types.specs.Limits.{most_combinations, most_retries, most_tasks}
use Rattle.tk_types.specs.Place.{Place}
use Rattle.tk_names.specs.Rules.{is_dns_label, is_object_name}
use Rattle.tk_time.specs.Duration.{longest_duration}
use Rattle.tk_vars.specs.Reading.{HasReading}
use Rattle.tk_bind.specs.Fits.{fits, step_elements, step_single_texts, step_texts}
use Rattle.tk_bind.specs.Readings.{ReadsStep, ReadsTaskSpec}
use Rattle.tk_early.specs.Possible.{settled_count}
use Rattle.tk_verdict.specs.Gives.{has_entry}
use Rattle.tk_resolve.specs.Reasons.{start_of}
use Rattle.tk_resolve.specs.Run.{resolved_run}
use Rattle.tk_resolve.specs.TaskRun.{body_with, first_reason, resolved_task_run}
use Rattle.tk_resolve.specs.Timeouts.{finally_ms, one_hour, part_ms, pipeline_ms, tasks_ms}
use Rattle.tk_read_laws.proofs.Nothing.{mapped_none, not_refused}
use Rattle.tk_journal.specs.declared.act.Admission.{Admission}
use Rattle.tk_journal.specs.declared.act.Admission.TheVariants.{Run}
use Rattle.tk_journal.specs.Lists.{IsThere}
use Rattle.tk_journal.specs.Names.{possible_of}
use Rattle.tk_journal.specs.Sound.{HasSteps, IsSound, IsSoundRun, IsSoundSpec, IsSoundTaskRun, ReadsSteps, bare}
use Rattle.tk_journal.specs.Stops.{asked_stop}
use Rattle.tk_admit.specs.declared.taken.Taken.{Taken}
use Rattle.tk_admit.specs.Objects.{matrix_finding, oversize, task_oversize}
use Rattle.tk_admit.specs.Sound.{IsSound as IsFound, IsSoundRun as IsFoundRun}
use Rattle.tk_admit.specs.Taken.{asked_of, is_pending, resolved, run_name}
use Rattle.tk_admit.proofs.Texts.{all_read}
use Rattle.tk_read_laws.specs.Read.{AreShort, IsReadObject, IsReadRun, IsReadTaskRun, IsShort, is_stop}
use Rattle.tk_sound.proofs.Fitting.{task_run_fits}
use Rattle.tk_sound.proofs.Kept.{IsKept, IsKeptObject, IsKeptTask, IsKeptTaskRun, IsSizedTask, OnPipelineSource}
use Rattle.tk_sound.proofs.Words.{all_there}
use Rattle.tk_sound.proofs.Resolved.{Stays, StaysAlone, bodies_sized, each_resolved, each_resolved_task_run, pipeline_kept, spec_alone}

-- timeouts
given_short : (found : Option ℕ) (other : ℕ) → ForSome found IsShort → other ≤ longest_duration → unwrap_or found other ≤ longest_duration
given_short None other short few = few
given_short (Some millis) other short few = short millis refl

part_short : (given : Given3) (part other : Option ℕ) → ForSome given.pipeline IsShort → ForSome part IsShort → part_ms given part other ≤ longest_duration
part_short given (Some millis) other whole short = short millis refl
part_short given None None whole short = omega arith
part_short given None (Some millis) whole short = let all = given_short given.pipeline 0 whole (omega arith) in omega (arith, all)

abbrev HasTimeouts : RunSpec → Type 0
HasTimeouts spec = (spec.pipeline_ms ≤ longest_duration) × (spec.tasks_ms ≤ longest_duration) × (spec.finally_ms ≤ longest_duration)

-- what resolving keeps of a run
record Keeps (run : RunObject) (spec : RunSpec) : Type 0 where
  name : spec.name ≡ run.name
  few : length spec.tasks + length spec.finally ≤ most_tasks
  tasks : All IsKeptTask (tasks_of spec)
  bodies : All (λ (b : TaskBody). IsSizedTask b.spec) spec.bodies
  timeouts : HasTimeouts spec

run_times : (run : RunObject) → AreShort run.timeouts → (pipeline_ms run.timeouts ≤ longest_duration) × (tasks_ms run.timeouts ≤ longest_duration) × (finally_ms run.timeouts ≤ longest_duration)
run_times run short =
    let given = run.timeouts in (
      given_short given.pipeline one_hour short.pipeline (omega arith),
      part_short given given.tasks given.finally short.pipeline short.tasks,
      part_short given given.finally given.tasks short.pipeline short.finally,
    )

stays_keep : (run : RunObject) (spec : RunSpec) → AreShort run.timeouts → Stays run spec → Keeps run spec
stays_keep run spec short stays =
    let P : TaskBody → Type 0 = λ b. IsSizedTask b.spec in
    let times = run_times run short in
    let no_tasks : length spec.tasks ≡ 0 = ap length stays.tasks in
    let no_finally : length spec.finally ≡ 0 = ap length stays.finally in
    record {
      name = stays.name;
      few = omega (arith, no_tasks, no_finally);
      tasks =
          All-append IsKeptTask spec.tasks spec.finally (All-same IsKeptTask spec.tasks [] stays.tasks (All-nil IsKeptTask))
          (All-same IsKeptTask spec.finally [] stays.finally (All-nil IsKeptTask));
      bodies = All-same P spec.bodies [] stays.bodies (All-nil P);
      timeouts = (
        subst (λ n. n ≤ longest_duration) (sym stays.pipeline_time) times.0,
        subst (λ n. n ≤ longest_duration) (sym stays.tasks_time) times.1,
        subst (λ n. n ≤ longest_duration) (sym stays.finally_time) times.2,
      );
    }

run_keeps : (earlier : List Item) (run : RunObject) → All IsKept earlier → OnPipelineSource run.source → AreShort run.timeouts → Keeps run (resolved_run earlier run)
run_keeps earlier run all own short =
    each_resolved (Keeps run) earlier run (λ spec stays. stays_keep run spec short stays)
    (λ pipeline bodies is are.
    let kept = pipeline_kept earlier run.source pipeline all own is in
    record { name = refl; few = kept.few; tasks = kept.tasks; bodies = bodies_sized earlier run pipeline bodies all kept are; timeouts = run_times run short })

-- tests of all
tested : {X : Type 0} (test : X → Bool) (xs : List X) → All (λ x. test x ≡ true) xs → list_all test xs ≡ true
tested test [] all = refl
tested test (x ∷ xs) all = and_from _ _ (All-head (λ y. test y ≡ true) x xs all) (tested test xs (All-tail (λ y. test y ≡ true) x xs all))

-- a run
sound_spec : (run : RunObject) (spec : RunSpec) → Keeps run spec → IsFoundRun spec → IsSoundSpec spec
sound_spec run spec keeps found =
    record {
      few_tasks = keeps.few;
      names_differ = found.names_differ;
      one_body_each = found.one_body_each;
      parents_exist = found.parents_exist;
      acyclic = found.acyclic;
      readable = all_read (bare spec) found.readable;
      entries = tested has_entry (tasks_of spec) (All-weaker IsKeptTask (λ task. has_entry task ≡ true) (λ task kept. kept.entry) (tasks_of spec) keeps.tasks);
      steps = All-weaker (λ (b : TaskBody). IsSizedTask b.spec) (HasSteps spec.start) (λ body sized. record { few = sized.few; some = λ ready. sized.some }) spec.bodies keeps.bodies;
      few_retries = All-weaker IsKeptTask (λ (task : PipelineTask). task.retries ≤ most_retries) (λ task kept. kept.retries) (tasks_of spec) keeps.tasks;
    }

few_by : (place : Place) (count : Option ℕ) (matrix : Option Matrix) → option_and_then (oversize place) count ≡ None → unwrap_or (option_map (λ (m : Matrix). unwrap_or count most_combinations) matrix) 1 ≤ most_combinations
few_by place count None e = omega arith
few_by place None (Some m) e = omega arith
few_by place (Some n) (Some m) e = ltb-false most_combinations n (not_refused (nat_lt most_combinations n) _ e)

few_children : (place : Place) (spec : RunSpec) → matrix_finding place (Run spec) ≡ None → All (λ (task : PipelineTask). possible_of spec task ≤ most_combinations) (tasks_of spec)
few_children place spec e =
    mapped_none (task_oversize place spec) (λ (task : PipelineTask). possible_of spec task ≤ most_combinations)
    (λ task none. few_by place (settled_count spec task) task.matrix none) (tasks_of spec) e

stop_there : (status : Asked) → is_stop status ≡ true → IsThere (asked_stop status)
stop_there StoppedRunFinally is = (_, refl)
stop_there CancelledRunFinally is = (_, refl)
stop_there Cancelled is = (_, refl)
stop_there StartAsked is = absurd (let f : ⊥ = cc in f)
stop_there TaskRunCancelled is = absurd (let f : ⊥ = cc in f)

run_by : (place : Place) (run : RunObject) (spec : RunSpec) → IsReadRun run → Keeps run spec → IsFoundRun spec → matrix_finding place (Run spec) ≡ None → IsSoundRun spec.name run.status spec
run_by place run spec read keeps found few =
    record {
      named = refl;
      is_name = subst (λ n. is_object_name n ≡ true) (sym keeps.name) read.name;
      are_labels =
          tested (λ (task : PipelineTask). is_dns_label task.name) (tasks_of spec)
          (All-weaker IsKeptTask (λ (task : PipelineTask). is_dns_label task.name ≡ true) (λ task kept. kept.label) (tasks_of spec) keeps.tasks);
      tasks = sound_spec run spec keeps found;
      few_children = few_children place spec few;
      asked_stops = λ status is. stop_there status (read.asked status is);
      timeouts = keeps.timeouts;
      task_timeouts = All-weaker IsKeptTask (λ (task : PipelineTask). task.timeout ≤ longest_duration) (λ task kept. kept.timeout) (tasks_of spec) keeps.tasks;
    }

-- the texts of a step that reads
step_reads : (step : Step) → ReadsStep step → All HasReading (step_texts step)
step_reads step reads =
    let value = λ (p : Pair). p.value in
    All-append HasReading (step_elements step) (step_single_texts step) (All-append HasReading step.command step.args reads.command reads.args)
    (All-append HasReading (option_to_list step.script ++ map value step.env) (option_to_list step.dir)
    (All-append HasReading (option_to_list step.script) (map value step.env) (all_there HasReading step.script reads.script) (All-map HasReading value step.env reads.env))
    (all_there HasReading step.dir reads.dir))

steps_read : (body : TaskBody) → ReadsTaskSpec body.spec → ReadsSteps body
steps_read body reads = All-weaker ReadsStep (λ (s : Step). All HasReading (step_texts s)) step_reads body.spec.steps reads

-- what resolving keeps of a TaskRun
record KeepsAlone (run : TaskRunObject) (spec : TaskRunSpec) : Type 0 where
  name : spec.name ≡ run.name
  steps : HasSteps spec.start spec.body
  fit : ReadsSteps spec.body → spec.start ≡ Ready → fits spec.body spec.params ≡ true
  retries : spec.retries ≤ most_retries
  timeout : spec.timeout ≤ longest_duration

there_or_not : {X : Type 0} (o : Option X) → (o ≡ None) ⊎ ((x : X) × (o ≡ Some x))
there_or_not None = inl refl
there_or_not (Some x) = inr (x, refl)

stays_alone : (run : TaskRunObject) (spec : TaskRunSpec) → IsReadTaskRun run → IsKeptTaskRun run → StaysAlone run spec → KeepsAlone run spec
stays_alone run spec read kept stays =
    let none : length spec.body.spec.steps ≡ 0 = ap length stays.steps in
    record {
      name = stays.name;
      steps = record { few = omega (arith, none); some = λ ready. absurd (stays.start ready) };
      fit = λ readings ready. absurd (stays.start ready);
      retries = subst (λ n. n ≤ most_retries) (sym stays.retries) kept.retries;
      timeout = subst (λ n. n ≤ longest_duration) (sym stays.timeout) read.timeout;
    }

task_run_keeps : (earlier : List Item) (run : TaskRunObject) → All IsKept earlier → IsReadTaskRun run → IsKeptTaskRun run → KeepsAlone run (resolved_task_run earlier run)
task_run_keeps earlier run all read kept =
    each_resolved_task_run (KeepsAlone run) earlier run (λ spec stays. stays_alone run spec read kept stays)
    (λ spec is.
    let alone = spec_alone earlier run.source spec all kept.source is in
    let body = body_with run spec in
    record {
      name = refl;
      steps = record { few = alone.sized.few; some = λ ready. alone.sized.some };
      fit =
          λ readings ready.
          elim (there_or_not (first_reason run body)) [
            | inl none ↦ task_run_fits run spec read.params alone readings none
            | inr some ↦ absurd (let other : start_of (first_reason run body) ≡ start_of (Some some.0) = ap start_of some.1 in let f : ⊥ = cc in f)
          ];
      retries = kept.retries;
      timeout = read.timeout;
    })

cancelled_alone : (cancelled : Bool) (status : Asked) → (if cancelled then Some TaskRunCancelled else None) ≡ Some status → status ≡ TaskRunCancelled
cancelled_alone true status is = sym (same_Some TaskRunCancelled status is)
cancelled_alone false status is = absurd (none-some status is)

task_run_by : (run : TaskRunObject) (spec : TaskRunSpec) → IsReadTaskRun run → KeepsAlone run spec → ReadsTaskSpec spec.body.spec → IsSoundTaskRun spec.name (asked_of (TaskRun run)) spec
task_run_by run spec read keeps reads =
    let readings = steps_read spec.body reads in
    record {
      named = refl;
      is_name = subst (λ n. is_object_name n ≡ true) (sym keeps.name) read.name;
      readable = readings;
      steps = keeps.steps;
      fit = keeps.fit readings;
      asked_cancelled = cancelled_alone run.cancelled;
      few_retries = keeps.retries;
      timeout = keeps.timeout;
    }

-- one that is taken in
abbrev pub IsSoundTaken : Taken → Type 0
IsSoundTaken run = IsSound (run_name run.spec) run.asked run.spec

-- an object as a run that is taken in, by its place
abbrev pub taken_at : Place → List Item → ItemObject → Option Taken
taken_at place earlier object = option_map (λ (spec : Admission). record { place = place; pending = is_pending object; asked = asked_of object; spec = spec }) (resolved earlier object)

pub no_run : (P : Taken → Type 0) → ForSome None P
no_run P run is = absurd (none-some run is)

pub sound_taken : (place : Place) (earlier : List Item) (object : ItemObject) → All IsKept earlier → IsReadObject object → IsKeptObject object → ((spec : Admission) → resolved earlier object ≡ Some spec → IsFound spec)
    → option_and_then (matrix_finding place) (resolved earlier object) ≡ None → ForSome (taken_at place earlier object) IsSoundTaken
sound_taken place earlier (PipelineRun run) all read kept found few =
    λ taken is. subst IsSoundTaken (same_Some _ taken is) (run_by place run (resolved_run earlier run) read (run_keeps earlier run all kept read.timeouts) (found _ refl) few)
sound_taken place earlier (TaskRun run) all read kept found few =
    λ taken is. subst IsSoundTaken (same_Some _ taken is) (task_run_by run (resolved_task_run earlier run) read (task_run_keeps earlier run all read kept) (found _ refl))
sound_taken place earlier (TaskObject name spec) all read kept found few = no_run IsSoundTaken
sound_taken place earlier (Pipeline name spec) all read kept found few = no_run IsSoundTaken
sound_taken place earlier (Outcomes name spec) all read kept found few = no_run IsSoundTaken
sound_taken place earlier (Scenario name spec) all read kept found few = no_run IsSoundTaken
