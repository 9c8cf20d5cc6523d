-- What holds of a run that can't start and of one that can holds of each resolved run.
use Rattle.std.proofs.Common.{◌≡◌, ◌⊎◌, ℕ, List, [], ◌∷◌, Option, Some, None, map, length, suc, All, inl, inr, refl, sym, ap, ◌∙◌, subst}
use Rattle.std.proofs.lemmas.List.{length-append, length-map}
use Rattle.std.proofs.lemmas.List.Elements.{All-append, All-nil}
use Rattle.tk_types.specs.declared.value.Param.{Param}
use Rattle.tk_types.specs.declared.task.PipelineTask.{PipelineTask}
use Rattle.tk_types.specs.declared.task.TaskBody.{TaskBody}
use Rattle.tk_types.specs.declared.task.TaskSpec.{TaskSpec}
use Rattle.tk_types.specs.declared.run.RunSpec.{RunSpec}
use Rattle.tk_types.specs.declared.object.Item.{Item}
use Rattle.tk_types.specs.declared.object.PipelineSpec.{PipelineSpec}
use Rattle.tk_types.specs.declared.object.RunObject.{RunObject}
use Rattle.tk_types.specs.declared.object.TaskRunObject.{TaskRunObject}
use Rattle.tk_types.specs.declared.object.TaskRunSpec.{TaskRunSpec}
use Rattle.tk_types.specs.Lists.{all_some}
use Rattle.tk_bind.specs.Readings.{ReadsObject, ReadsParam, ReadsPipelineSource, ReadsPipelineTask, ReadsStep, ReadsTaskSource, ReadsTaskSpec}
use Rattle.tk_resolve.specs.declared.reason.Reason.{Reason}
use Rattle.tk_resolve.specs.declared.reason.Reason.TheVariants.{CouldntGetPipeline, CouldntGetTask}
use Rattle.tk_resolve.specs.Laws.{HasItsTasks, HasNoTasks, HasOneBodyEach, ReadsRunSpec, RunsItsTasks}
use Rattle.tk_early.specs.Words.{first_env}
use Rattle.tk_resolve.specs.Run.{all_tasks, bodies_of, body_of, env_with, first_reason, pipeline_of, resolved_run, run_with_bodies, run_with_pipeline, startable, task_words, unstartable}
use Rattle.tk_resolve.specs.TaskRun.{body_with, first_reason as first_task_reason, no_spec, resolved_task_run, spec_of, task_run_with}
use Rattle.tk_resolve.specs.Values.{all_values}
use Rattle.tk_resolve.proofs.BodiesRead.{bodies_read, pipeline_reads}
use Rattle.tk_resolve.proofs.LookedUp.{spec_reads}
use Rattle.tk_resolve.proofs.Sources.{sources_found}

-- step by step
by_reason : (P : RunSpec → Type 0) (run : RunObject) (pipeline : PipelineSpec) (bodies : List TaskBody) (params : List Param) (found : Option Reason)
    → ((reason : Reason) → P (unstartable run params reason)) → P (startable run pipeline params bodies)
    → P (elim found [ Some reason ↦ unstartable run params reason | None ↦ startable run pipeline params bodies ])
by_reason P run pipeline bodies params None stays starts = starts
by_reason P run pipeline bodies params (Some reason) stays starts = stays reason

by_bodies : (P : RunSpec → Type 0) (run : RunObject) (pipeline : PipelineSpec) (params : List Param) (found : Option (List TaskBody))
    → ((reason : Reason) → P (unstartable run params reason)) → ((bodies : List TaskBody) → found ≡ Some bodies → P (run_with_bodies run pipeline bodies))
    → P (elim found [ None ↦ unstartable run params CouldntGetTask | Some bodies ↦ run_with_bodies run pipeline bodies ])
by_bodies P run pipeline params None stays starts = stays CouldntGetTask
by_bodies P run pipeline params (Some bodies) stays starts = starts bodies refl

-- of a run whose pipeline is found
by_pipeline : (P : RunSpec → Type 0) (earlier : List Item) (run : RunObject) (pipeline : PipelineSpec)
    → ((reason : Reason) → P (unstartable run (all_values pipeline.params run.params) reason))
    → ((bodies : List TaskBody) → bodies_of earlier run pipeline ≡ Some bodies → P (startable run pipeline (all_values pipeline.params run.params) bodies))
    → P (run_with_pipeline earlier run pipeline)
by_pipeline P earlier run pipeline stays starts =
    let params = all_values pipeline.params run.params in
    by_bodies P run pipeline params (bodies_of earlier run pipeline) stays
    (λ bodies are. by_reason P run pipeline bodies params (first_reason run pipeline bodies) stays (starts bodies are))

abbrev with_pipeline : List Item → RunObject → Option PipelineSpec → RunSpec
with_pipeline earlier run found = elim found [ None ↦ unstartable run run.params CouldntGetPipeline | Some pipeline ↦ run_with_pipeline earlier run pipeline ]

by_found : (P : RunSpec → Type 0) (earlier : List Item) (run : RunObject) (found : Option PipelineSpec)
    → ((reason : Reason) → P (unstartable run run.params reason)) → ((pipeline : PipelineSpec) → found ≡ Some pipeline → P (run_with_pipeline earlier run pipeline)) → P (with_pipeline earlier run found)
by_found P earlier run None stays starts = stays CouldntGetPipeline
by_found P earlier run (Some pipeline) stays starts = starts pipeline refl

each_resolved : (P : RunSpec → Type 0) (earlier : List Item) (run : RunObject)
    → ((params : List Param) (reason : Reason) → P (unstartable run params reason))
    → ((pipeline : PipelineSpec) (bodies : List TaskBody) → pipeline_of earlier run.source ≡ Some pipeline → bodies_of earlier run pipeline ≡ Some bodies
    → P (startable run pipeline (all_values pipeline.params run.params) bodies))
    → P (resolved_run earlier run)
each_resolved P earlier run stays starts =
    by_found P earlier run (pipeline_of earlier run.source) (stays run.params)
    (λ pipeline is. by_pipeline P earlier run pipeline (stays (all_values pipeline.params run.params)) (λ bodies are. starts pipeline bodies is are))

-- tasks
abbrev Alike : List Item → RunObject → RunSpec → Type 0
Alike earlier run spec = HasNoTasks spec ⊎ HasItsTasks earlier run spec

pub tasks_alike : (earlier : List Item) (run : RunObject) → HasNoTasks (resolved_run earlier run) ⊎ HasItsTasks earlier run (resolved_run earlier run)
tasks_alike earlier run =
    each_resolved (Alike earlier run) earlier run (λ params reason. inl (record { tasks = refl; finally = refl; bodies = refl; results = refl }))
    (λ pipeline bodies is are. inr (pipeline, is, record { tasks = refl; finally = refl; results = refl }))

-- as many values as there are
cons_length : {X : Type 0} (x : X) (rest : Option (List X)) (n : ℕ) (all : List X) → ((xs : List X) → rest ≡ Some xs → length xs ≡ n)
    → (elim rest [ None ↦ None | Some xs ↦ Some (x ∷ xs) ]) ≡ Some all → length all ≡ suc n
cons_length x None n all more is = absurd (let f : ⊥ = cc in f)
cons_length x (Some xs) n all more is = ap length (sym (let e : x ∷ xs ≡ all = cc in e)) ∙ ap suc (more xs refl)

all_some-length : {X : Type 0} (os : List (Option X)) (all : List X) → all_some os ≡ Some all → length all ≡ length os
all_some-length [] all is = ap length (sym (let e : [] ≡ all = cc in e))
all_some-length (None ∷ os) all is = absurd (let f : ⊥ = cc in f)
all_some-length (Some x ∷ os) all is = cons_length x (all_some os) (length os) all (all_some-length os) is

pub one_body_each : (earlier : List Item) (run : RunObject) → HasOneBodyEach (resolved_run earlier run)
one_body_each earlier run =
    each_resolved HasOneBodyEach earlier run (λ params reason. refl)
    (λ pipeline bodies is are.
    let body : PipelineTask → Option TaskBody = λ t. body_of earlier run pipeline t t.source in
    all_some-length (map body (all_tasks pipeline)) bodies are ∙ (length-map (all_tasks pipeline) body ∙ length-append pipeline.tasks pipeline.finally))

-- what each task runs
pub specs_found : (earlier : List Item) (run : RunObject) → RunsItsTasks earlier (resolved_run earlier run)
specs_found earlier run =
    each_resolved (RunsItsTasks earlier) earlier run
    (λ params reason. All-nil (λ (t : PipelineTask × TaskBody). spec_of earlier t.0.source ≡ Some t.1.spec))
    (λ pipeline bodies is are. sources_found earlier run pipeline bodies are)

-- texts
pub run_reads : (earlier : List Item) (run : RunObject) → ReadsPipelineSource run.source → All (λ (i : Item). ReadsObject i.object) earlier → ReadsRunSpec (resolved_run earlier run)
run_reads earlier run own all =
    each_resolved ReadsRunSpec earlier run
    (λ params reason. record { tasks = All-nil ReadsPipelineTask; bodies = All-nil (λ (b : TaskBody). ReadsTaskSpec b.spec); results = All-nil ReadsParam })
    (λ pipeline bodies is are.
    let reads = pipeline_reads earlier run.source pipeline all own is in
    record {
      tasks = All-append ReadsPipelineTask pipeline.tasks pipeline.finally reads.tasks reads.finally;
      bodies = bodies_read earlier run pipeline bodies all reads are;
      results = reads.results;
    })

abbrev with_found : TaskRunObject → Option TaskSpec → TaskRunSpec
with_found run found =
    elim found [
      | None ↦ task_run_with run (body_with run no_spec) (Some CouldntGetTask)
      | Some spec ↦ task_run_with run (body_with run spec) (first_task_reason run (body_with run spec))
    ]

by_spec : (run : TaskRunObject) (found : Option TaskSpec) → ((spec : TaskSpec) → found ≡ Some spec → ReadsTaskSpec spec) → ReadsTaskSpec (with_found run found).body.spec
by_spec run None reads = All-nil ReadsStep
by_spec run (Some spec) reads = reads spec refl

pub task_run_reads : (earlier : List Item) (run : TaskRunObject) → ReadsTaskSource run.source → All (λ (i : Item). ReadsObject i.object) earlier → ReadsTaskSpec (resolved_task_run earlier run).body.spec
task_run_reads earlier run own all = by_spec run (spec_of earlier run.source) (λ spec is. spec_reads earlier run.source spec all own is)

-- values
pub same_values : (earlier : List Item) (run : RunObject) (pipeline : PipelineSpec) (task : PipelineTask) → pipeline_of earlier run.source ≡ Some pipeline
    → first_env (resolved_run earlier run) task ≡ env_with run pipeline (task_words run task)
same_values earlier run pipeline task is =
    let P : RunSpec → Type 0 = λ spec. first_env spec task ≡ env_with run pipeline (task_words run task) in
    subst (λ (found : Option PipelineSpec). P (with_pipeline earlier run found)) (sym is) (by_pipeline P earlier run pipeline (λ reason. refl) (λ bodies are. refl))
