-- Where the pipeline of a run comes from.
use Rattle.std.proofs.Common.{◌≡◌, ℕ, Bool, true, false, cond, List, [], ◌∷◌, Option, Some, None, All, Contains, bytes_eq, find, option_map, inl, inr, refl, ap, subst}
use Rattle.std.specs.Prelude.{filter_map}
use Rattle.std.specs.List.{cons_option}
use Rattle.std.proofs.lemmas.List.Elements.{All-cons, All-contains_itself, All-head, All-nil, All-tail}
use Rattle.tk_types.specs.declared.object.Item.{Item}
use Rattle.tk_types.specs.declared.object.ItemObject.{ItemObject}
use Rattle.tk_types.specs.declared.object.ItemObject.TheVariants.{Task, Pipeline, TaskRun, PipelineRun, Outcomes, Scenario}
use Rattle.tk_types.specs.declared.object.PipelineSource.{PipelineSource}
use Rattle.tk_types.specs.declared.object.PipelineSource.TheVariants.{Named as NamedPipeline, Inlined as InlinedPipeline}
use Rattle.tk_types.specs.declared.object.PipelineSpec.{PipelineSpec}
use Rattle.tk_vars.proofs.TextFacts.{same_text}
use Rattle.tk_resolve.specs.Laws.{IsSourceOf, StandsAmong}
use Rattle.tk_resolve.specs.Lookup.{as_pipeline, named}
use Rattle.tk_resolve.specs.Run.{pipeline_of}
use Rattle.tk_resolve.proofs.LookedUp.{find_holds}

-- what is found passes the test
passes_here : {X : Type 0} (test : X → Bool) (b : Bool) (x y : X) (rest : Option X) → test x ≡ b → (rest ≡ Some y → test y ≡ true) → cond b (Some x) rest ≡ Some y → test y ≡ true
passes_here test true x y rest here later is = subst (λ z. test z ≡ true) (let e : x ≡ y = cc in e) here
passes_here test false x y rest here later is = later is

find_passes : {X : Type 0} (test : X → Bool) (xs : List X) (y : X) → find test xs ≡ Some y → test y ≡ true
find_passes test [] y is = absurd (let f : ⊥ = cc in f)
find_passes test (x ∷ xs) y is = passes_here test (test x) x y (find test xs) refl (find_passes test xs y) is

-- what holds of each entry holds of the name and of what is found of it
entry_holds : {X : Type 0} (P : List ℕ × X → Type 0) (name : List ℕ) (found : Option (List ℕ × X)) (y : X)
    → ((e : List ℕ × X) → found ≡ Some e → P e) → ((e : List ℕ × X) → found ≡ Some e → bytes_eq e.0 name ≡ true)
    → option_map (λ (e : List ℕ × X). e.1) found ≡ Some y → P (name, y)
entry_holds P name None y holds same is = absurd (let f : ⊥ = cc in f)
entry_holds P name (Some e) y holds same is =
    subst (λ z. P (name, z)) (let s : e.1 ≡ y = cc in s) (subst (λ n. P (n, e.1)) (same_text e.0 name (same e refl)) (holds e refl))

named_entry : {X : Type 0} (P : List ℕ × X → Type 0) (name : List ℕ) (entries : List (List ℕ × X)) (y : X) → All P entries → named name entries ≡ Some y → P (name, y)
named_entry {X} P name entries y all is =
    let test : List ℕ × X → Bool = λ e. bytes_eq e.0 name in
    entry_holds P name (find test entries) y (λ e. find_holds P test entries e all) (λ e. find_passes test entries e) is

-- each Pipeline stands among the items
abbrev Stands : List Item → List ℕ × PipelineSpec → Type 0
Stands all e = StandsAmong all (Pipeline e.0 e.1)

pipeline_stands : (all : List Item) (i : Item) (o : ItemObject) (rest : List (List ℕ × PipelineSpec)) → Contains all i → i.object ≡ o → All (Stands all) rest → All (Stands all) (cons_option (as_pipeline o) rest)
pipeline_stands all i (Task name spec) rest among is more = more
pipeline_stands all i (Pipeline name spec) rest among is more = All-cons (Stands all) (name, spec) rest (i, among, is) more
pipeline_stands all i (TaskRun run) rest among is more = more
pipeline_stands all i (PipelineRun run) rest among is more = more
pipeline_stands all i (Outcomes name spec) rest among is more = more
pipeline_stands all i (Scenario name spec) rest among is more = more

pipelines_stand : (all items : List Item) → All (Contains all) items → All (Stands all) (filter_map (λ (i : Item). as_pipeline i.object) items)
pipelines_stand all [] among = All-nil (Stands all)
pipelines_stand all (i ∷ items) among =
    pipeline_stands all i i.object (filter_map (λ (i : Item). as_pipeline i.object) items) (All-head (Contains all) i items among) refl (pipelines_stand all items (All-tail (Contains all) i items among))

pub found_source : (earlier : List Item) (source : PipelineSource) (pipeline : PipelineSpec) → pipeline_of earlier source ≡ Some pipeline → IsSourceOf earlier pipeline source
found_source earlier (NamedPipeline name) pipeline is =
    inr (name, refl, named_entry (Stands earlier) name (filter_map (λ (i : Item). as_pipeline i.object) earlier) pipeline (pipelines_stand earlier earlier (All-contains_itself earlier)) is)
found_source earlier (InlinedPipeline own) pipeline is = inl (ap InlinedPipeline (let s : own ≡ pipeline = cc in s))
