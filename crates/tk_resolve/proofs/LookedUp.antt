-- What is found among objects with a reading in each of their texts has that too.
use Rattle.std.proofs.Common.{◌≡◌, ℕ, Bool, true, false, cond, List, [], ◌∷◌, Option, Some, None, All, bytes_eq, find, option_map, refl, subst}
use Rattle.std.specs.Prelude.{filter_map}
use Rattle.std.specs.List.{cons_option}
use Rattle.std.proofs.lemmas.List.Elements.{All-cons, All-head, All-nil, All-tail}
use Rattle.tk_types.specs.declared.object.Item.{Item}
use Rattle.tk_types.specs.declared.object.ItemObject.{ItemObject}
use Rattle.tk_types.specs.declared.object.ItemObject.TheVariants.{Task, Pipeline, TaskRun, PipelineRun, Outcomes, Scenario}
use Rattle.tk_types.specs.declared.task.TaskSource.{TaskSource}
use Rattle.tk_types.specs.declared.task.TaskSource.TheVariants.{Named, Inlined}
use Rattle.tk_types.specs.declared.task.TaskSpec.{TaskSpec}
use Rattle.tk_bind.specs.Readings.{ReadsObject, ReadsTaskSource, ReadsTaskSpec}
use Rattle.tk_resolve.specs.Lookup.{as_task, named}
use Rattle.tk_resolve.specs.TaskRun.{spec_of}

-- what holds of each entry holds of the first of a name
here : {X : Type 0} (P : X → Type 0) (b : Bool) (x y : X) (rest : Option X) → P x → (rest ≡ Some y → P y) → cond b (Some x) rest ≡ Some y → P y
here P true x y rest p later is = subst P (let e : x ≡ y = cc in e) p
here P false x y rest p later is = later is

pub find_holds : {X : Type 0} (P : X → Type 0) (test : X → Bool) (xs : List X) (y : X) → All P xs → find test xs ≡ Some y → P y
find_holds P test [] y all is = absurd (let f : ⊥ = cc in f)
find_holds P test (x ∷ xs) y all is = here P (test x) x y (find test xs) (All-head P x xs all) (find_holds P test xs y (All-tail P x xs all)) is

value_holds : {X : Type 0} (P : X → Type 0) (found : Option (List ℕ × X)) (y : X) → ((e : List ℕ × X) → found ≡ Some e → P e.1) → option_map (λ (e : List ℕ × X). e.1) found ≡ Some y → P y
value_holds P None y holds is = absurd (let f : ⊥ = cc in f)
value_holds P (Some e) y holds is = subst P (let s : e.1 ≡ y = cc in s) (holds e refl)

pub named_holds : {X : Type 0} (P : X → Type 0) (name : List ℕ) (entries : List (List ℕ × X)) (y : X) → All (λ (e : List ℕ × X). P e.1) entries → named name entries ≡ Some y → P y
named_holds {X} P name entries y all is =
    let Q : List ℕ × X → Type 0 = λ e. P e.1 in
    let test : List ℕ × X → Bool = λ e. bytes_eq e.0 name in
    value_holds P (find test entries) y (λ e. find_holds Q test entries e all) is

-- Tasks
abbrev Reads : List ℕ × TaskSpec → Type 0
Reads e = ReadsTaskSpec e.1

task_read : (o : ItemObject) (rest : List (List ℕ × TaskSpec)) → ReadsObject o → All Reads rest → All Reads (cons_option (as_task o) rest)
task_read (Task name spec) rest reads all = All-cons Reads (name, spec) rest reads all
task_read (Pipeline name spec) rest reads all = all
task_read (TaskRun run) rest reads all = all
task_read (PipelineRun run) rest reads all = all
task_read (Outcomes name spec) rest reads all = all
task_read (Scenario name spec) rest reads all = all

tasks_read : (items : List Item) → All (λ (i : Item). ReadsObject i.object) items → All Reads (filter_map (λ (i : Item). as_task i.object) items)
tasks_read [] all = All-nil Reads
tasks_read (i ∷ items) all =
    let P : Item → Type 0 = λ i. ReadsObject i.object in
    task_read i.object (filter_map (λ (i : Item). as_task i.object) items) (All-head P i items all) (tasks_read items (All-tail P i items all))

pub spec_reads : (items : List Item) (source : TaskSource) (spec : TaskSpec) → All (λ (i : Item). ReadsObject i.object) items → ReadsTaskSource source → spec_of items source ≡ Some spec → ReadsTaskSpec spec
spec_reads items (Named name) spec all reads is = named_holds ReadsTaskSpec name (filter_map (λ (i : Item). as_task i.object) items) spec (tasks_read items all) is
spec_reads items (Inlined own) spec all reads is = subst ReadsTaskSpec (let s : own ≡ spec = cc in s) reads
