-- The runs of a Pipeline without a matrix that can start weigh the same, and so do the names of their tasks.
use Rattle.std.proofs.Common.{◌≡◌, ℕ, ◌+◌, ◌*◌, ◌<◌, ◌≤◌, ◌⊎◌, suc, min, List, [], ◌∷◌, ◌++◌, map, length, All, sum_by, true, Option, Some, None, inl, inr, refl, sym, ap, ap₂, ◌∙◌, subst, length-append, arith, cond}
use Rattle.std.specs.Prelude.{IsTrue, option_map, option_and_then}
use Rattle.std.specs.List.{zip}
use Rattle.std.proofs.lemmas.List.Elements.{All-append, All-cons, All-head, All-nil, All-push, All-tail}
use Rattle.std.proofs.lemmas.List.Sums.{sum_by-cons}
use Rattle.tk_types.specs.Behaviour.{tasks_of}
use Rattle.tk_types.specs.First.{first_of}
use Rattle.tk_types.specs.Place.{Place}
use Rattle.tk_types.specs.declared.object.Item.{Item}
use Rattle.tk_types.specs.declared.object.ItemObject.{ItemObject}
use Rattle.tk_types.specs.declared.object.ItemObject.TheVariants.{Task as TaskObject, Pipeline, TaskRun, PipelineRun, Outcomes, Scenario}
use Rattle.tk_types.specs.declared.object.PipelineSource.{PipelineSource}
use Rattle.tk_types.specs.declared.object.PipelineSource.TheVariants.{Named, Inlined}
use Rattle.tk_types.specs.declared.object.PipelineSpec.{PipelineSpec}
use Rattle.tk_types.specs.declared.object.RunObject.{RunObject}
use Rattle.tk_types.specs.declared.run.RunSpec.{RunSpec}
use Rattle.tk_types.specs.declared.task.PipelineTask.{PipelineTask}
use Rattle.tk_types.specs.declared.task.TaskBody.{TaskBody}
use Rattle.tk_types.specs.declared.task.TaskSpec.{TaskSpec}
use Rattle.tk_early.specs.Possible.{possible_children, settled_count, told_count}
use Rattle.tk_resolve.specs.Known.{IsSingle}
use Rattle.tk_resolve.specs.Laws.{HasItsTasks, HasNoTasks, HasTasksOf}
use Rattle.tk_resolve.specs.Lookup.{pipeline_named}
use Rattle.tk_resolve.specs.Run.{all_tasks, pipeline_of, resolved_run}
use Rattle.tk_resolve.specs.TaskRun.{spec_of}
use Rattle.tk_resolve.proofs.KnownStays.{pipeline_stays, spec_stays}
use Rattle.tk_resolve.proofs.ResolvedRuns.{one_body_each, specs_found, tasks_alike}
use Rattle.tk_journal.specs.declared.act.Admission.{Admission}
use Rattle.tk_journal.specs.declared.act.Admission.TheVariants.{Run, Task}
use Rattle.tk_journal.specs.Names.{possible_of}
use Rattle.tk_journal.specs.Weight.{child_weight, run_weight, task_weight}
use Rattle.tk_admit.specs.Apart.{HasWholeName}
use Rattle.tk_admit.specs.Measure.{HasShortName, HasSize, IsFound, IsKnownSize, named_pipeline, source_name, source_weight, spec_weight}
use Rattle.tk_admit.specs.declared.measure.RunSize.{RunSize}
use Rattle.tk_admit.specs.Objects.{oversize, task_oversize}
use Rattle.tk_admit.specs.Sound.{HasFewChildren}
use Rattle.tk_admit.specs.Taken.{resolved}

-- ---- a task without a matrix
one_child : (spec : RunSpec) (task : PipelineTask) → IsSingle task → possible_children spec task ≡ None
one_child spec task single = rw single refl

pub single_few : (spec : RunSpec) (tasks : List PipelineTask) → All IsSingle tasks → All (HasFewChildren spec) tasks
single_few spec [] all = All-nil (HasFewChildren spec)
single_few spec (task ∷ tasks) all =
    All-cons (HasFewChildren spec) task tasks
    (λ children is. absurd (let both : None ≡ Some children = sym (one_child spec task (All-head IsSingle task tasks all)) ∙ is in let f : ⊥ = cc in f))
    (single_few spec tasks (All-tail IsSingle task tasks all))

settled_one : (spec : RunSpec) (task : PipelineTask) → IsSingle task → settled_count spec task ≡ Some 1
settled_one spec task single = rw single refl

single_fits : (place : Place) (spec : RunSpec) (task : PipelineTask) → IsSingle task → task_oversize place spec task ≡ None
single_fits place spec task single = ap (option_and_then (oversize place)) (settled_one spec task single)

pub none_oversize : (place : Place) (spec : RunSpec) (tasks : List PipelineTask) → All IsSingle tasks → first_of (map (task_oversize place spec) tasks) ≡ None
none_oversize place spec [] all = refl
none_oversize place spec (task ∷ tasks) all =
    rw (single_fits place spec task (All-head IsSingle task tasks all)) (none_oversize place spec tasks (All-tail IsSingle task tasks all))

-- ---- what tasks weigh hangs on their specs
same_weight : (earlier : List Item) (spec : RunSpec) (task : PipelineTask) (body : TaskBody) → IsSingle task → spec_of earlier task.source ≡ Some body.spec → task_weight spec (task, body) ≡ source_weight earlier task
same_weight earlier spec task body single is =
    let one : possible_of spec task ≡ 1 = rw (one_child spec task single) refl in
    let times : 1 * child_weight task.retries body ≡ child_weight task.retries body = omega arith in
    ap (λ n. n * child_weight task.retries body) one ∙ (times ∙ sym (ap (spec_weight task.retries) is))

same_weights : (earlier : List Item) (spec : RunSpec) (tasks : List PipelineTask) (bodies : List TaskBody) → length bodies ≡ length tasks → All IsSingle tasks
    → All (λ (t : PipelineTask × TaskBody). spec_of earlier t.0.source ≡ Some t.1.spec) (zip tasks bodies) → sum_by (task_weight spec) (zip tasks bodies) ≡ sum_by (source_weight earlier) tasks
same_weights earlier spec [] bodies long single runs = refl
same_weights earlier spec (task ∷ tasks) [] long single runs = absurd (omega arith)
same_weights earlier spec (task ∷ tasks) (body ∷ bodies) long single runs =
    let R : PipelineTask × TaskBody → Type 0 = λ t. spec_of earlier t.0.source ≡ Some t.1.spec in
    sum_by-cons (task_weight spec) (task, body) (zip tasks bodies)
    ∙ (ap₂ (λ (a b : ℕ). a + b)
    (same_weight earlier spec task body (All-head IsSingle task tasks single) (All-head R (task, body) (zip tasks bodies) runs))
    (same_weights earlier spec tasks bodies (omega arith) (All-tail IsSingle task tasks single) (All-tail R (task, body) (zip tasks bodies) runs))
    ∙ sym (sum_by-cons (source_weight earlier) task tasks))

all_found : (earlier : List Item) (tasks : List PipelineTask) (bodies : List TaskBody) → length bodies ≡ length tasks
    → All (λ (t : PipelineTask × TaskBody). spec_of earlier t.0.source ≡ Some t.1.spec) (zip tasks bodies) → All (IsFound earlier) tasks
all_found earlier [] bodies long runs = All-nil (IsFound earlier)
all_found earlier (task ∷ tasks) [] long runs = absurd (omega arith)
all_found earlier (task ∷ tasks) (body ∷ bodies) long runs =
    let R : PipelineTask × TaskBody → Type 0 = λ t. spec_of earlier t.0.source ≡ Some t.1.spec in
    All-cons (IsFound earlier) task tasks (body.spec, All-head R (task, body) (zip tasks bodies) runs)
    (all_found earlier tasks bodies (omega arith) (All-tail R (task, body) (zip tasks bodies) runs))

-- ---- a run of a Pipeline
as_long : (earlier : List Item) (run : RunObject) → length (resolved_run earlier run).bodies ≡ length (tasks_of (resolved_run earlier run))
as_long earlier run = one_body_each earlier run ∙ sym (length-append (resolved_run earlier run).tasks (resolved_run earlier run).finally)

weighs : (earlier : List Item) (run : RunObject) → All IsSingle (tasks_of (resolved_run earlier run))
    → run_weight (Run (resolved_run earlier run)) ≡ 7 + length (tasks_of (resolved_run earlier run)) + sum_by (source_weight earlier) (tasks_of (resolved_run earlier run))
weighs earlier run single =
    let spec = resolved_run earlier run in
    ap (λ (n : ℕ). 7 + length (tasks_of spec) + n) (same_weights earlier spec (tasks_of spec) spec.bodies (as_long earlier run) single (specs_found earlier run))

-- its tasks, if it has some, are those of the Pipeline of the name
named_tasks : (earlier : List Item) (run : RunObject) (name : List ℕ) (pipeline : PipelineSpec) → run.source ≡ Named name → pipeline_named earlier name ≡ Some pipeline → 0 < length (tasks_of (resolved_run earlier run))
    → tasks_of (resolved_run earlier run) ≡ all_tasks pipeline
named_tasks earlier run name pipeline source named some = by (tasks_alike earlier run)
  where
    by : HasNoTasks (resolved_run earlier run) ⊎ HasItsTasks earlier run (resolved_run earlier run) → tasks_of (resolved_run earlier run) ≡ all_tasks pipeline
    by (inl none) =
        let empty : tasks_of (resolved_run earlier run) ≡ [] = ap₂ (λ (a b : List PipelineTask). a ++ b) none.tasks none.finally in
        let long : length (tasks_of (resolved_run earlier run)) ≡ 0 = ap length empty in
        absurd (omega arith)
    by (inr (own, is, has)) =
        let both : Some own ≡ Some pipeline = sym is ∙ (ap (pipeline_of earlier) source ∙ named) in
        let one : own ≡ pipeline = cc in
        ap₂ (λ (a b : List PipelineTask). a ++ b) has.tasks has.finally ∙ ap all_tasks one

found_named : (earlier : List Item) (run : RunObject) (name : List ℕ) → run.source ≡ Named name → 0 < length (tasks_of (resolved_run earlier run))
    → (pipeline : PipelineSpec) × (pipeline_named earlier name ≡ Some pipeline)
found_named earlier run name source some = by (tasks_alike earlier run)
  where
    by : HasNoTasks (resolved_run earlier run) ⊎ HasItsTasks earlier run (resolved_run earlier run) → (pipeline : PipelineSpec) × (pipeline_named earlier name ≡ Some pipeline)
    by (inl none) =
        let empty : tasks_of (resolved_run earlier run) ≡ [] = ap₂ (λ (a b : List PipelineTask). a ++ b) none.tasks none.finally in
        let long : length (tasks_of (resolved_run earlier run)) ≡ 0 = ap length empty in
        absurd (omega arith)
    by (inr (own, is, has)) = (own, sym (ap (pipeline_of earlier) source) ∙ is)

abbrev of_tasks : List Item → List PipelineTask → ℕ
of_tasks earlier tasks = 7 + length tasks + sum_by (source_weight earlier) tasks

size_of_run : (earlier : List Item) (run : RunObject) (name : List ℕ) (size : RunSize) → IsKnownSize earlier name size → run.source ≡ Named name → 0 < length (tasks_of (resolved_run earlier run))
    → HasSize (resolved_run earlier run) size
size_of_run earlier run name size known source some =
    let are = named_tasks earlier run name known.pipeline source known.named some in
    let single : All IsSingle (tasks_of (resolved_run earlier run)) = subst (All IsSingle) (sym are) known.single in
    record {
      single = single;
      weight = known.weight ∙ ap told_count (sym (weighs earlier run single ∙ ap (of_tasks earlier) are));
      longest = subst (All (HasShortName size.longest)) (sym are) known.longest;
    }

known_by_run : (earlier : List Item) (run : RunObject) (name : List ℕ) (size : RunSize) → HasSize (resolved_run earlier run) size → run.source ≡ Named name → 0 < length (tasks_of (resolved_run earlier run))
    → IsKnownSize earlier name size
known_by_run earlier run name size has source some =
    let found = found_named earlier run name source some in
    let are = named_tasks earlier run name found.0 source found.1 some in
    record {
      pipeline = found.0;
      named = found.1;
      single = subst (All IsSingle) are has.single;
      found = subst (All (IsFound earlier)) are (all_found earlier (tasks_of (resolved_run earlier run)) (resolved_run earlier run).bodies (as_long earlier run) (specs_found earlier run));
      weight = has.weight ∙ ap told_count (weighs earlier run has.single ∙ ap (of_tasks earlier) are);
      longest = subst (All (HasShortName size.longest)) are has.longest;
    }

-- ---- the same of an object that is resolved so
by_object : (P : RunSpec → Type 0) (earlier : List Item) (object : ItemObject) (spec : RunSpec) (name : List ℕ) → named_pipeline object ≡ Some name → resolved earlier object ≡ Some (Run spec)
    → ((run : RunObject) → run.source ≡ Named name → P (resolved_run earlier run)) → P spec
by_object P earlier (PipelineRun run) spec name named is each = subst P (let e : resolved_run earlier run ≡ spec = cc in e) (each run (source_is run.source named))
  where
    source_is : (source : PipelineSource) → source_name source ≡ Some name → source ≡ Named name
    source_is (Named other) e = let same : other ≡ name = cc in ap Named same
    source_is (Inlined own) e = absurd (let f : ⊥ = cc in f)
by_object P earlier (TaskObject own other) spec name named is each = absurd (let f : ⊥ = cc in f)
by_object P earlier (Pipeline own other) spec name named is each = absurd (let f : ⊥ = cc in f)
by_object P earlier (TaskRun run) spec name named is each = absurd (let f : ⊥ = cc in f)
by_object P earlier (Outcomes own other) spec name named is each = absurd (let f : ⊥ = cc in f)
by_object P earlier (Scenario own other) spec name named is each = absurd (let f : ⊥ = cc in f)

pub size_known : (earlier : List Item) (object : ItemObject) (spec : RunSpec) (name : List ℕ) (size : RunSize) → named_pipeline object ≡ Some name → resolved earlier object ≡ Some (Run spec) → IsKnownSize earlier name size
    → 0 < length (tasks_of spec) → HasSize spec size
size_known earlier object spec name size named is known some =
    by_object (λ (s : RunSpec). 0 < length (tasks_of s) → HasSize s size) earlier object spec name named is (λ run source more. size_of_run earlier run name size known source more) some

pub size_learned : (earlier : List Item) (object : ItemObject) (spec : RunSpec) (name : List ℕ) (size : RunSize) → named_pipeline object ≡ Some name → resolved earlier object ≡ Some (Run spec) → HasSize spec size
    → 0 < length (tasks_of spec) → IsKnownSize earlier name size
size_learned earlier object spec name size named is has some =
    by_object (λ (s : RunSpec). HasSize s size → 0 < length (tasks_of s) → IsKnownSize earlier name size) earlier object spec name named is
    (λ run source own more. known_by_run earlier run name size own source more) has some

-- ---- with more objects behind
weight_stays : (earlier more : List Item) (task : PipelineTask) → IsFound earlier task → source_weight (earlier ++ more) task ≡ source_weight earlier task
weight_stays earlier more task (spec, is) = ap (spec_weight task.retries) (spec_stays earlier more task.source spec is ∙ sym is)

weights_stay : (earlier more : List Item) (tasks : List PipelineTask) → All (IsFound earlier) tasks → sum_by (source_weight (earlier ++ more)) tasks ≡ sum_by (source_weight earlier) tasks
weights_stay earlier more [] found = refl
weights_stay earlier more (task ∷ tasks) found =
    sum_by-cons (source_weight (earlier ++ more)) task tasks
    ∙ (ap₂ (λ (a b : ℕ). a + b) (weight_stays earlier more task (All-head (IsFound earlier) task tasks found)) (weights_stay earlier more tasks (All-tail (IsFound earlier) task tasks found))
    ∙ sym (sum_by-cons (source_weight earlier) task tasks))

founds_stay : (earlier more : List Item) (tasks : List PipelineTask) → All (IsFound earlier) tasks → All (IsFound (earlier ++ more)) tasks
founds_stay earlier more [] found = All-nil (IsFound (earlier ++ more))
founds_stay earlier more (task ∷ tasks) found =
    let here = All-head (IsFound earlier) task tasks found in
    All-cons (IsFound (earlier ++ more)) task tasks (here.0, spec_stays earlier more task.source here.0 here.1) (founds_stay earlier more tasks (All-tail (IsFound earlier) task tasks found))

pub size_stays : (earlier more : List Item) (name : List ℕ) (size : RunSize) → IsKnownSize earlier name size → IsKnownSize (earlier ++ more) name size
size_stays earlier more name size known =
    record {
      pipeline = known.pipeline;
      named = pipeline_stays earlier more name known.pipeline known.named;
      single = known.single;
      found = founds_stay earlier more (all_tasks known.pipeline) known.found;
      weight = known.weight ∙ ap (λ (n : ℕ). told_count (7 + length (all_tasks known.pipeline) + n)) (sym (weights_stay earlier more (all_tasks known.pipeline) known.found));
      longest = known.longest;
    }
