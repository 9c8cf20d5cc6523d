-- What a run runs has a reading in each of its texts.
use Rattle.std.proofs.Common.{◌≡◌, ℕ, List, [], ◌∷◌, Option, Some, None, map, All, option_map, refl, sym, ap, ◌∙◌, subst}
use Rattle.std.specs.Prelude.{filter_map}
use Rattle.std.specs.List.{cons_option}
use Rattle.std.proofs.lemmas.List.Elements.{All-append, All-cons, All-head, All-nil, All-tail}
use Rattle.tk_types.specs.declared.object.Item.{Item}
use Rattle.tk_types.specs.declared.object.ItemObject.{ItemObject}
use Rattle.tk_types.specs.declared.object.ItemObject.TheVariants.{Task, Pipeline, TaskRun, PipelineRun, Outcomes, Scenario}
use Rattle.tk_types.specs.declared.object.PipelineSource.{PipelineSource}
use Rattle.tk_types.specs.declared.object.PipelineSource.TheVariants.{Named as NamedPipeline, Inlined as InlinedPipeline}
use Rattle.tk_types.specs.declared.object.PipelineSpec.{PipelineSpec}
use Rattle.tk_types.specs.declared.object.RunObject.{RunObject}
use Rattle.tk_types.specs.declared.task.PipelineTask.{PipelineTask}
use Rattle.tk_types.specs.declared.task.TaskBody.{TaskBody}
use Rattle.tk_types.specs.declared.task.TaskSource.{TaskSource}
use Rattle.tk_types.specs.declared.task.TaskSource.TheVariants.{Named, Inlined}
use Rattle.tk_types.specs.declared.task.TaskSpec.{TaskSpec}
use Rattle.tk_types.specs.Lists.{all_some}
use Rattle.tk_bind.specs.Readings.{ReadsObject, ReadsPipelineSource, ReadsPipelineSpec, ReadsPipelineTask, ReadsTaskSource, ReadsTaskSpec}
use Rattle.tk_resolve.specs.Lookup.{as_pipeline, task_named}
use Rattle.tk_resolve.specs.Run.{all_tasks, bodies_of, body_of, pipeline_of}
use Rattle.tk_resolve.specs.Spaces.{handed_spaces}
use Rattle.tk_resolve.proofs.LookedUp.{named_holds, spec_reads}

-- Pipelines
abbrev Reads : List ℕ × PipelineSpec → Type 0
Reads e = ReadsPipelineSpec e.1

pipeline_read : (o : ItemObject) (rest : List (List ℕ × PipelineSpec)) → ReadsObject o → All Reads rest → All Reads (cons_option (as_pipeline o) rest)
pipeline_read (Task name spec) rest reads all = all
pipeline_read (Pipeline name spec) rest reads all = All-cons Reads (name, spec) rest reads all
pipeline_read (TaskRun run) rest reads all = all
pipeline_read (PipelineRun run) rest reads all = all
pipeline_read (Outcomes name spec) rest reads all = all
pipeline_read (Scenario name spec) rest reads all = all

pipelines_read : (items : List Item) → All (λ (i : Item). ReadsObject i.object) items → All Reads (filter_map (λ (i : Item). as_pipeline i.object) items)
pipelines_read [] all = All-nil Reads
pipelines_read (i ∷ items) all =
    let P : Item → Type 0 = λ i. ReadsObject i.object in
    pipeline_read i.object (filter_map (λ (i : Item). as_pipeline i.object) items) (All-head P i items all) (pipelines_read items (All-tail P i items all))

pub pipeline_reads : (items : List Item) (source : PipelineSource) (spec : PipelineSpec) → All (λ (i : Item). ReadsObject i.object) items → ReadsPipelineSource source → pipeline_of items source ≡ Some spec → ReadsPipelineSpec spec
pipeline_reads items (NamedPipeline name) spec all reads is = named_holds ReadsPipelineSpec name (filter_map (λ (i : Item). as_pipeline i.object) items) spec (pipelines_read items all) is
pipeline_reads items (InlinedPipeline own) spec all reads is = subst ReadsPipelineSpec (let s : own ≡ spec = cc in s) reads

-- bodies
body_with : (made : TaskSpec → TaskBody) (o : Option TaskSpec) (body : TaskBody) → ((s : TaskSpec) → (made s).spec ≡ s) → ((s : TaskSpec) → o ≡ Some s → ReadsTaskSpec s) → option_map made o ≡ Some body → ReadsTaskSpec body.spec
body_with made None body same reads is = absurd (let f : ⊥ = cc in f)
body_with made (Some s) body same reads is = subst ReadsTaskSpec (sym (same s) ∙ ap (λ (b : TaskBody). b.spec) (let e : made s ≡ body = cc in e)) (reads s refl)

same_spec : (made body : TaskBody) → Some made ≡ Some body → made.spec ≡ body.spec
same_spec made body is = ap (λ (b : TaskBody). b.spec) (let e : made ≡ body = cc in e)

body_reads : (earlier : List Item) (run : RunObject) (pipeline : PipelineSpec) (task : PipelineTask) (source : TaskSource) (body : TaskBody)
    → All (λ (i : Item). ReadsObject i.object) earlier → ReadsTaskSource source → body_of earlier run pipeline task source ≡ Some body → ReadsTaskSpec body.spec
body_reads earlier run pipeline task (Named name) body all reads is =
    body_with (λ spec. record { spec = spec; task_name = name; outer = []; fallback = []; bound = handed_spaces run.bindings task.spaces spec.spaces }) (task_named earlier name) body (λ s. refl)
    (λ s found. spec_reads earlier (Named name) s all reads found) is
body_reads earlier run pipeline task (Inlined spec) body all reads is = subst ReadsTaskSpec (same_spec _ body is) reads

-- all that are there of what a function gives
cons_read : {X : Type 0} (R : X → Type 0) (x : X) (rest : Option (List X)) (all : List X) → R x → ((xs : List X) → rest ≡ Some xs → All R xs) → (elim rest [ None ↦ None | Some xs ↦ Some (x ∷ xs) ]) ≡ Some all → All R all
cons_read R x None all here more is = absurd (let f : ⊥ = cc in f)
cons_read R x (Some xs) all here more is = subst (All R) (let e : x ∷ xs ≡ all = cc in e) (All-cons R x xs here (more xs refl))

head_read : {X : Type 0} (R : X → Type 0) (o : Option X) (os : List (Option X)) (all : List X) → ((x : X) → o ≡ Some x → R x) → ((xs : List X) → all_some os ≡ Some xs → All R xs) → all_some (o ∷ os) ≡ Some all → All R all
head_read R None os all here more is = absurd (let f : ⊥ = cc in f)
head_read R (Some x) os all here more is = cons_read R x (all_some os) all (here x refl) more is

all_some_read : {X Y : Type 0} (Q : Y → Type 0) (R : X → Type 0) (f : Y → Option X) (ys : List Y) (all : List X) → ((y : Y) → Q y → (x : X) → f y ≡ Some x → R x) → All Q ys → all_some (map f ys) ≡ Some all → All R all
all_some_read Q R f [] all each reads is = subst (All R) (let e : [] ≡ all = cc in e) (All-nil R)
all_some_read Q R f (y ∷ ys) all each reads is =
    head_read R (f y) (map f ys) all (each y (All-head Q y ys reads)) (λ xs. all_some_read Q R f ys xs each (All-tail Q y ys reads)) is

pub bodies_read : (earlier : List Item) (run : RunObject) (pipeline : PipelineSpec) (bodies : List TaskBody) → All (λ (i : Item). ReadsObject i.object) earlier → ReadsPipelineSpec pipeline → bodies_of earlier run pipeline ≡ Some bodies → All (λ (b : TaskBody). ReadsTaskSpec b.spec) bodies
bodies_read earlier run pipeline bodies all reads is =
    all_some_read ReadsPipelineTask (λ (b : TaskBody). ReadsTaskSpec b.spec) (λ (t : PipelineTask). body_of earlier run pipeline t t.source) (all_tasks pipeline) bodies
    (λ t own b. body_reads earlier run pipeline t t.source b all own.source) (All-append ReadsPipelineTask pipeline.tasks pipeline.finally reads.tasks reads.finally) is
