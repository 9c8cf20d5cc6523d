-- The body of a task has the spec that its source names.
use Rattle.std.proofs.Common.{◌≡◌, List, [], ◌∷◌, Option, Some, None, map, All, option_map, refl, sym, ap, ◌∙◌, subst}
use Rattle.std.specs.List.{zip}
use Rattle.std.proofs.lemmas.List.Elements.{All-cons, All-nil}
use Rattle.tk_types.specs.declared.object.Item.{Item}
use Rattle.tk_types.specs.declared.object.PipelineSpec.{PipelineSpec}
use Rattle.tk_types.specs.declared.object.RunObject.{RunObject}
use Rattle.tk_types.specs.declared.task.PipelineTask.{PipelineTask}
use Rattle.tk_types.specs.declared.task.TaskBody.{TaskBody}
use Rattle.tk_types.specs.declared.task.TaskSource.{TaskSource}
use Rattle.tk_types.specs.declared.task.TaskSource.TheVariants.{Named, Inlined}
use Rattle.tk_types.specs.declared.task.TaskSpec.{TaskSpec}
use Rattle.tk_types.specs.Lists.{all_some}
use Rattle.tk_resolve.specs.Lookup.{task_named}
use Rattle.tk_resolve.specs.Run.{all_tasks, bodies_of, body_of}
use Rattle.tk_resolve.specs.Spaces.{handed_spaces}
use Rattle.tk_resolve.specs.TaskRun.{spec_of}

-- a body that is made of a spec has it
spec_made : (made : TaskSpec → TaskBody) (o : Option TaskSpec) (body : TaskBody) → ((s : TaskSpec) → (made s).spec ≡ s) → option_map made o ≡ Some body → o ≡ Some body.spec
spec_made made None body same is = absurd (let f : ⊥ = cc in f)
spec_made made (Some s) body same is = ap Some (sym (same s) ∙ ap (λ (b : TaskBody). b.spec) (let e : made s ≡ body = cc in e))

own_spec : (made body : TaskBody) → Some made ≡ Some body → Some made.spec ≡ Some body.spec
own_spec made body is = ap (λ (b : TaskBody). Some b.spec) (let e : made ≡ body = cc in e)

body_spec : (earlier : List Item) (run : RunObject) (pipeline : PipelineSpec) (task : PipelineTask) (source : TaskSource) (body : TaskBody) → body_of earlier run pipeline task source ≡ Some body → spec_of earlier source ≡ Some body.spec
body_spec earlier run pipeline task (Named name) body is =
    spec_made (λ spec. record { spec = spec; task_name = name; outer = []; fallback = []; bound = handed_spaces run.bindings task.spaces spec.spaces }) (task_named earlier name) body (λ s. refl) is
body_spec earlier run pipeline task (Inlined spec) body is = own_spec _ body is

-- each beside what a function gives of it, where all give something
cons_found : {X Y : Type 0} (R : Y × X → Type 0) (y : Y) (x : X) (ys : List Y) (rest : Option (List X)) (all : List X) → R (y, x) → ((xs : List X) → rest ≡ Some xs → All R (zip ys xs))
    → (elim rest [ None ↦ None | Some xs ↦ Some (x ∷ xs) ]) ≡ Some all → All R (zip (y ∷ ys) all)
cons_found R y x ys None all here more is = absurd (let f : ⊥ = cc in f)
cons_found R y x ys (Some xs) all here more is =
    subst (λ zs. All R (zip (y ∷ ys) zs)) (let e : x ∷ xs ≡ all = cc in e) (All-cons R (y, x) (zip ys xs) here (more xs refl))

head_found : {X Y : Type 0} (R : Y × X → Type 0) (y : Y) (ys : List Y) (o : Option X) (os : List (Option X)) (all : List X) → ((x : X) → o ≡ Some x → R (y, x)) → ((xs : List X) → all_some os ≡ Some xs → All R (zip ys xs))
    → all_some (o ∷ os) ≡ Some all → All R (zip (y ∷ ys) all)
head_found R y ys None os all here more is = absurd (let f : ⊥ = cc in f)
head_found R y ys (Some x) os all here more is = cons_found R y x ys (all_some os) all (here x refl) more is

all_found : {X Y : Type 0} (R : Y × X → Type 0) (f : Y → Option X) (ys : List Y) (all : List X) → ((y : Y) (x : X) → f y ≡ Some x → R (y, x)) → all_some (map f ys) ≡ Some all → All R (zip ys all)
all_found R f [] all each is = All-nil R
all_found R f (y ∷ ys) all each is = head_found R y ys (f y) (map f ys) all (each y) (λ xs. all_found R f ys xs each) is

pub sources_found : (earlier : List Item) (run : RunObject) (pipeline : PipelineSpec) (bodies : List TaskBody) → bodies_of earlier run pipeline ≡ Some bodies
    → All (λ (t : PipelineTask × TaskBody). spec_of earlier t.0.source ≡ Some t.1.spec) (zip (all_tasks pipeline) bodies)
sources_found earlier run pipeline bodies is =
    all_found (λ (t : PipelineTask × TaskBody). spec_of earlier t.0.source ≡ Some t.1.spec) (λ (t : PipelineTask). body_of earlier run pipeline t t.source) (all_tasks pipeline) bodies
    (λ t b. body_spec earlier run pipeline t t.source b) is
