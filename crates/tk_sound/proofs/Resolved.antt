-- What resolving keeps of the objects to which a run refers.
use Rattle.std.proofs.Common.{◌≡◌, ◌≢◌, ℕ, List, [], ◌∷◌, map, Option, Some, None, option_map, refl, sym, subst}
use Rattle.std.specs.Prelude.{All, filter_map}
use Rattle.std.specs.List.{cons_option}
use Rattle.std.proofs.lemmas.List.Elements.{All-cons, All-head, All-nil, All-tail}
use Rattle.tk_types.specs.declared.object.Item.{Item}
use Rattle.tk_types.specs.declared.object.ItemObject.{ItemObject}
use Rattle.tk_types.specs.declared.object.ItemObject.TheVariants.{Task, Pipeline, TaskRun, PipelineRun, Outcomes, Scenario}
use Rattle.tk_types.specs.declared.object.PipelineSource.{PipelineSource}
use Rattle.tk_types.specs.declared.object.PipelineSource.TheVariants.{Named as NamedPipeline, Inlined as InlinedPipeline}
use Rattle.tk_types.specs.declared.object.PipelineSpec.{PipelineSpec}
use Rattle.tk_types.specs.declared.object.RunObject.{RunObject}
use Rattle.tk_types.specs.declared.object.TaskRunObject.{TaskRunObject}
use Rattle.tk_types.specs.declared.object.TaskRunSpec.{TaskRunSpec}
use Rattle.tk_types.specs.declared.run.RunSpec.{RunSpec}
use Rattle.tk_types.specs.declared.run.Start.TheVariants.{Ready}
use Rattle.tk_types.specs.declared.task.PipelineTask.{PipelineTask}
use Rattle.tk_types.specs.declared.task.TaskBody.{TaskBody}
use Rattle.tk_types.specs.declared.task.TaskSource.{TaskSource}
use Rattle.tk_types.specs.declared.task.TaskSource.TheVariants.{Named, Inlined}
use Rattle.tk_types.specs.declared.task.TaskSpec.{TaskSpec}
use Rattle.tk_types.specs.Lists.{all_some}
use Rattle.tk_resolve.specs.Lookup.{as_pipeline, as_task, task_named}
use Rattle.tk_resolve.specs.Run.{all_tasks, bodies_of, body_of, first_reason, pipeline_of, resolved_run, run_with_bodies, run_with_pipeline, startable, unstartable}
use Rattle.tk_resolve.specs.Spaces.{handed_spaces}
use Rattle.tk_resolve.specs.TaskRun.{body_with, first_reason as first_task_reason, resolved_task_run, spec_of, task_run_with}
use Rattle.tk_resolve.specs.Timeouts.{finally_ms, pipeline_ms, tasks_ms}
use Rattle.tk_resolve.specs.Values.{all_values}
use Rattle.tk_resolve.proofs.LookedUp.{named_holds}
use Rattle.tk_sound.proofs.Kept.{IsAloneTask, IsKept, IsKeptObject, IsKeptPipeline, IsKeptTask, IsSizedTask, OnPipelineSource, OnSource}

-- Tasks by name
abbrev Alone : List ℕ × TaskSpec → Type 0
Alone e = IsAloneTask e.1

task_entry : (o : ItemObject) (rest : List (List ℕ × TaskSpec)) → IsKeptObject o → All Alone rest → All Alone (cons_option (as_task o) rest)
task_entry (Task name spec) rest kept all = All-cons Alone (name, spec) rest kept all
task_entry (Pipeline name spec) rest kept all = all
task_entry (TaskRun run) rest kept all = all
task_entry (PipelineRun run) rest kept all = all
task_entry (Outcomes name spec) rest kept all = all
task_entry (Scenario name spec) rest kept all = all

tasks_kept : (items : List Item) → All IsKept items → All Alone (filter_map (λ (i : Item). as_task i.object) items)
tasks_kept [] all = All-nil Alone
tasks_kept (i ∷ items) all =
    task_entry i.object (filter_map (λ (i : Item). as_task i.object) items) (All-head IsKept i items all) (tasks_kept items (All-tail IsKept i items all))

pub task_alone : (items : List Item) (name : List ℕ) (spec : TaskSpec) → All IsKept items → task_named items name ≡ Some spec → IsAloneTask spec
task_alone items name spec all is = named_holds IsAloneTask name (filter_map (λ (i : Item). as_task i.object) items) spec (tasks_kept items all) is

pub spec_alone : (items : List Item) (source : TaskSource) (spec : TaskSpec) → All IsKept items → OnSource IsAloneTask source → spec_of items source ≡ Some spec → IsAloneTask spec
spec_alone items (Named name) spec all kept is = task_alone items name spec all is
spec_alone items (Inlined own) spec all kept is = subst IsAloneTask (let s : own ≡ spec = cc in s) kept

-- Pipelines by name
abbrev Kept : List ℕ × PipelineSpec → Type 0
Kept e = IsKeptPipeline e.1

pipeline_entry : (o : ItemObject) (rest : List (List ℕ × PipelineSpec)) → IsKeptObject o → All Kept rest → All Kept (cons_option (as_pipeline o) rest)
pipeline_entry (Task name spec) rest kept all = all
pipeline_entry (Pipeline name spec) rest kept all = All-cons Kept (name, spec) rest kept all
pipeline_entry (TaskRun run) rest kept all = all
pipeline_entry (PipelineRun run) rest kept all = all
pipeline_entry (Outcomes name spec) rest kept all = all
pipeline_entry (Scenario name spec) rest kept all = all

pipelines_kept : (items : List Item) → All IsKept items → All Kept (filter_map (λ (i : Item). as_pipeline i.object) items)
pipelines_kept [] all = All-nil Kept
pipelines_kept (i ∷ items) all =
    pipeline_entry i.object (filter_map (λ (i : Item). as_pipeline i.object) items) (All-head IsKept i items all) (pipelines_kept items (All-tail IsKept i items all))

pub pipeline_kept : (items : List Item) (source : PipelineSource) (pipeline : PipelineSpec) → All IsKept items → OnPipelineSource source → pipeline_of items source ≡ Some pipeline → IsKeptPipeline pipeline
pipeline_kept items (NamedPipeline name) pipeline all kept is = named_holds IsKeptPipeline name (filter_map (λ (i : Item). as_pipeline i.object) items) pipeline (pipelines_kept items all) is
pipeline_kept items (InlinedPipeline own) pipeline all kept is = subst IsKeptPipeline (let s : own ≡ pipeline = cc in s) kept

-- bodies
named_body : (made : TaskSpec → TaskBody) (o : Option TaskSpec) (body : TaskBody) → ((s : TaskSpec) → (made s).spec ≡ s) → ((s : TaskSpec) → o ≡ Some s → IsAloneTask s) → option_map made o ≡ Some body → IsSizedTask body.spec
named_body made None body same kept is = absurd (let f : ⊥ = cc in f)
named_body made (Some s) body same kept is =
    let alone = kept s refl in
    subst (λ (b : TaskBody). IsSizedTask b.spec) (let e : made s ≡ body = cc in e) (subst IsSizedTask (sym (same s)) alone.sized)

body_sized : (earlier : List Item) (run : RunObject) (pipeline : PipelineSpec) (task : PipelineTask) (source : TaskSource) (body : TaskBody)
    → All IsKept earlier → OnSource IsSizedTask source → body_of earlier run pipeline task source ≡ Some body → IsSizedTask body.spec
body_sized earlier run pipeline task (Named name) body all kept is =
    named_body (λ spec. record { spec = spec; task_name = name; outer = []; fallback = []; bound = handed_spaces run.bindings task.spaces spec.spaces }) (task_named earlier name) body (λ s. refl)
    (λ s found. task_alone earlier name s all found) is
body_sized earlier run pipeline task (Inlined spec) body all kept is = sized_same _ body kept is
  where
    sized_same : (made other : TaskBody) → IsSizedTask made.spec → Some made ≡ Some other → IsSizedTask other.spec
    sized_same made other sized same = subst (λ (b : TaskBody). IsSizedTask b.spec) (let e : made ≡ other = cc in e) sized

-- all that are there of what a function gives
some_cons : {X : Type 0} (R : X → Type 0) (x : X) (rest : Option (List X)) (all : List X) → R x → ((xs : List X) → rest ≡ Some xs → All R xs) → (elim rest [ None ↦ None | Some xs ↦ Some (x ∷ xs) ]) ≡ Some all → All R all
some_cons R x None all here more is = absurd (let f : ⊥ = cc in f)
some_cons R x (Some xs) all here more is = subst (All R) (let e : x ∷ xs ≡ all = cc in e) (All-cons R x xs here (more xs refl))

some_head : {X : Type 0} (R : X → Type 0) (o : Option X) (os : List (Option X)) (all : List X) → ((x : X) → o ≡ Some x → R x) → ((xs : List X) → all_some os ≡ Some xs → All R xs) → all_some (o ∷ os) ≡ Some all → All R all
some_head R None os all here more is = absurd (let f : ⊥ = cc in f)
some_head R (Some x) os all here more is = some_cons R x (all_some os) all (here x refl) more is

all_made : {X Y : Type 0} (Q : Y → Type 0) (R : X → Type 0) (f : Y → Option X) (ys : List Y) (all : List X) → ((y : Y) → Q y → (x : X) → f y ≡ Some x → R x) → All Q ys → all_some (map f ys) ≡ Some all → All R all
all_made Q R f [] all each holds is = subst (All R) (let e : [] ≡ all = cc in e) (All-nil R)
all_made Q R f (y ∷ ys) all each holds is =
    some_head R (f y) (map f ys) all (each y (All-head Q y ys holds)) (λ xs. all_made Q R f ys xs each (All-tail Q y ys holds)) is

pub bodies_sized : (earlier : List Item) (run : RunObject) (pipeline : PipelineSpec) (bodies : List TaskBody) → All IsKept earlier → IsKeptPipeline pipeline → bodies_of earlier run pipeline ≡ Some bodies → All (λ (b : TaskBody). IsSizedTask b.spec) bodies
bodies_sized earlier run pipeline bodies all kept is =
    all_made IsKeptTask (λ (b : TaskBody). IsSizedTask b.spec) (λ (t : PipelineTask). body_of earlier run pipeline t t.source) (all_tasks pipeline) bodies
    (λ t own b. body_sized earlier run pipeline t t.source b all own.source) kept.tasks is

-- of an option that is there or not
by_option : {X Y : Type 0} (P : Y → Type 0) (found : Option X) (none : Y) (some : X → Y) → P none → ((x : X) → found ≡ Some x → P (some x)) → P (elim found [ None ↦ none | Some x ↦ some x ])
by_option P None none some absent there = absent
by_option P (Some x) none some absent there = there x refl

-- a run that can't start has nothing to do
pub record Stays (run : RunObject) (spec : RunSpec) : Type 0 where
  pub name : spec.name ≡ run.name
  pub tasks : spec.tasks ≡ []
  pub finally : spec.finally ≡ []
  pub bodies : spec.bodies ≡ []
  pub pipeline_time : spec.pipeline_ms ≡ pipeline_ms run.timeouts
  pub tasks_time : spec.tasks_ms ≡ tasks_ms run.timeouts
  pub finally_time : spec.finally_ms ≡ finally_ms run.timeouts

-- what holds of a run that can't start and of one that can holds of each resolved run
by_bodies : (P : RunSpec → Type 0) (earlier : List Item) (run : RunObject) (pipeline : PipelineSpec)
    → ((spec : RunSpec) → Stays run spec → P spec)
    → ((bodies : List TaskBody) → bodies_of earlier run pipeline ≡ Some bodies → P (startable run pipeline (all_values pipeline.params run.params) bodies))
    → P (run_with_pipeline earlier run pipeline)
by_bodies P earlier run pipeline stays starts =
    by_option P (bodies_of earlier run pipeline) _ (run_with_bodies run pipeline)
    (stays _ (record { name = refl; tasks = refl; finally = refl; bodies = refl; pipeline_time = refl; tasks_time = refl; finally_time = refl }))
    (λ bodies are.
    by_option P (first_reason run pipeline bodies) (startable run pipeline (all_values pipeline.params run.params) bodies) (unstartable run (all_values pipeline.params run.params))
    (starts bodies are)
    (λ reason is. stays _ (record { name = refl; tasks = refl; finally = refl; bodies = refl; pipeline_time = refl; tasks_time = refl; finally_time = refl })))

pub each_resolved : (P : RunSpec → Type 0) (earlier : List Item) (run : RunObject)
    → ((spec : RunSpec) → Stays run spec → P spec)
    → ((pipeline : PipelineSpec) (bodies : List TaskBody) → pipeline_of earlier run.source ≡ Some pipeline → bodies_of earlier run pipeline ≡ Some bodies
    → P (startable run pipeline (all_values pipeline.params run.params) bodies))
    → P (resolved_run earlier run)
each_resolved P earlier run stays starts =
    by_option P (pipeline_of earlier run.source) _ (run_with_pipeline earlier run)
    (stays _ (record { name = refl; tasks = refl; finally = refl; bodies = refl; pipeline_time = refl; tasks_time = refl; finally_time = refl }))
    (λ pipeline is. by_bodies P earlier run pipeline stays (λ bodies are. starts pipeline bodies is are))

-- a TaskRun that can't start has no steps
pub record StaysAlone (run : TaskRunObject) (spec : TaskRunSpec) : Type 0 where
  pub name : spec.name ≡ run.name
  pub steps : spec.body.spec.steps ≡ []
  pub start : spec.start ≢ Ready
  pub retries : spec.retries ≡ run.retries
  pub timeout : spec.timeout ≡ run.timeout

pub each_resolved_task_run : (P : TaskRunSpec → Type 0) (earlier : List Item) (run : TaskRunObject)
    → ((spec : TaskRunSpec) → StaysAlone run spec → P spec)
    → ((spec : TaskSpec) → spec_of earlier run.source ≡ Some spec → P (task_run_with run (body_with run spec) (first_task_reason run (body_with run spec))))
    → P (resolved_task_run earlier run)
each_resolved_task_run P earlier run stays starts =
    by_option P (spec_of earlier run.source) _ (λ spec. task_run_with run (body_with run spec) (first_task_reason run (body_with run spec)))
    (stays _ (record { name = refl; steps = refl; start = λ same. cc; retries = refl; timeout = refl }))
    starts
