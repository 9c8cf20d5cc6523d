-- What is known of runs stays known when an object or a run is added.
use Rattle.std.proofs.Common.{◌≡◌, ℕ, Bool, true, false, List, [], ◌∷◌, ◌++◌, map, Option, Some, None, bytes_eq, refl, sym, ap, ◌∙◌, subst}
use Rattle.std.specs.Prelude.{filter_map, if◌then◌else◌, option_map, OnErr, OnOk, Result, Ok, Err}
use Rattle.std.specs.Option.{option_or}
use Rattle.std.proofs.lemmas.List.Elements.{filter_map-append}
use Rattle.std.proofs.lemmas.Slice.Eq.{bytes_eq-Decides}
use Rattle.tk_types.specs.Lists.{all_some}
use Rattle.tk_types.specs.declared.task.PipelineTask.{PipelineTask}
use Rattle.tk_types.specs.declared.task.TaskBody.{TaskBody}
use Rattle.tk_types.specs.declared.task.TaskSource.{TaskSource}
use Rattle.tk_types.specs.declared.task.TaskSource.TheVariants.{Named, Inlined}
use Rattle.tk_types.specs.declared.task.TaskSpec.{TaskSpec}
use Rattle.tk_types.specs.declared.object.Item.{Item}
use Rattle.tk_types.specs.declared.object.PipelineSpec.{PipelineSpec}
use Rattle.tk_types.specs.declared.object.RunObject.{RunObject}
use Rattle.tk_resolve.specs.declared.known_run.KnownRun.{KnownRun}
use Rattle.tk_resolve.specs.Known.{IsKnownRun}
use Rattle.tk_resolve.specs.Lookup.{as_pipeline, as_task, task_named, named, pipeline_named}
use Rattle.tk_resolve.specs.Run.{all_tasks, body_of}
use Rattle.tk_resolve.specs.Spaces.{handed_spaces}
use Rattle.tk_resolve.specs.TaskRun.{spec_of}
use Rattle.tk_resolve.proofs.Found.{named_append}

-- what is found among these objects is found with more behind them
first_stays : {X : Type 0} (a b : Option X) (x : X) → a ≡ Some x → option_or a b ≡ Some x
first_stays None b x is = absurd (let f : ⊥ = cc in f)
first_stays (Some y) b x is = is

named_stays : {X : Type 0} (given : Item → Option (List ℕ × X)) (earlier more : List Item) (name : List ℕ) (x : X) → named name (filter_map given earlier) ≡ Some x → named name (filter_map given (earlier ++ more)) ≡ Some x
named_stays given earlier more name x is =
    ap (named name) (filter_map-append given earlier more)
    ∙ (named_append name (filter_map given earlier) (filter_map given more) ∙ first_stays (named name (filter_map given earlier)) (named name (filter_map given more)) x is)

pub pipeline_stays : (earlier more : List Item) (name : List ℕ) (pipeline : PipelineSpec) → pipeline_named earlier name ≡ Some pipeline → pipeline_named (earlier ++ more) name ≡ Some pipeline
pipeline_stays earlier more name pipeline is = named_stays (λ (i : Item). as_pipeline i.object) earlier more name pipeline is

pub spec_stays : (earlier more : List Item) (source : TaskSource) (spec : TaskSpec) → spec_of earlier source ≡ Some spec → spec_of (earlier ++ more) source ≡ Some spec
spec_stays earlier more (Named name) spec is = named_stays (λ (i : Item). as_task i.object) earlier more name spec is
spec_stays earlier more (Inlined own) spec is = is

-- bodies
made_stays : {X Y : Type 0} (f : X → Y) (before after : Option X) (y : Y) → ((x : X) → before ≡ Some x → after ≡ Some x) → option_map f before ≡ Some y → option_map f after ≡ Some y
made_stays f None after y stays is = absurd (let e : ⊥ = cc in e)
made_stays f (Some x) after y stays is = ap (option_map f) (stays x refl) ∙ is

body_stays : (earlier more : List Item) (run : RunObject) (pipeline : PipelineSpec) (task : PipelineTask) (source : TaskSource) (body : TaskBody) → body_of earlier run pipeline task source ≡ Some body → body_of (earlier ++ more) run pipeline task source ≡ Some body
body_stays earlier more run pipeline task (Named name) body is =
    made_stays (λ (spec : TaskSpec). record { spec = spec; task_name = name; outer = []; fallback = []; bound = handed_spaces run.bindings task.spaces spec.spaces }) (task_named earlier name) (task_named (earlier ++ more) name) body
    (λ spec found. named_stays (λ (i : Item). as_task i.object) earlier more name spec found) is
body_stays earlier more run pipeline task (Inlined spec) body is = is

all_stay : {Y : Type 0} (a b : Option Y) (before after : List (Option Y)) (all : List Y) → ((y : Y) → a ≡ Some y → b ≡ Some y) → ((ys : List Y) → all_some before ≡ Some ys → all_some after ≡ Some ys)
    → all_some (a ∷ before) ≡ Some all → all_some (b ∷ after) ≡ Some all
all_stay None b before after all first rest is = absurd (let e : ⊥ = cc in e)
all_stay {Y} (Some y) b before after all first rest is = ap (λ (o : Option Y). all_some (o ∷ after)) (first y refl) ∙ behind (all_some before) refl is
  where
    behind : (found : Option (List Y)) → all_some before ≡ found → elim found [ None ↦ None | Some ys ↦ Some (y ∷ ys) ] ≡ Some all → all_some (Some y ∷ after) ≡ Some all
    behind None same e = absurd (let f : ⊥ = cc in f)
    behind (Some ys) same e = ap (λ (o : Option (List Y)). elim o [ None ↦ None | Some zs ↦ Some (y ∷ zs) ]) (rest ys same) ∙ e

bodies_stay : (earlier more : List Item) (run : RunObject) (pipeline : PipelineSpec) (tasks : List PipelineTask) (bodies : List TaskBody)
    → all_some (map (λ (t : PipelineTask). body_of earlier run pipeline t t.source) tasks) ≡ Some bodies → all_some (map (λ (t : PipelineTask). body_of (earlier ++ more) run pipeline t t.source) tasks) ≡ Some bodies
bodies_stay earlier more run pipeline [] bodies is = is
bodies_stay earlier more run pipeline (task ∷ tasks) bodies is =
    all_stay (body_of earlier run pipeline task task.source) (body_of (earlier ++ more) run pipeline task task.source)
    (map (λ (t : PipelineTask). body_of earlier run pipeline t t.source) tasks) (map (λ (t : PipelineTask). body_of (earlier ++ more) run pipeline t t.source) tasks) bodies
    (body_stays earlier more run pipeline task task.source) (bodies_stay earlier more run pipeline tasks) is

pub known_stays : (earlier more : List Item) (name : List ℕ) (known : KnownRun) → IsKnownRun earlier name known → IsKnownRun (earlier ++ more) name known
known_stays earlier more name known is =
    record {
      pipeline = is.pipeline;
      named = pipeline_stays earlier more name is.pipeline is.named;
      single = is.single;
      found = bodies_stay earlier more known.run.now is.pipeline (all_tasks is.pipeline) known.bodies is.found;
      starts = is.starts;
      alone = is.alone;
    }

-- so once an object was added, or nothing was
pub added_known : {E : Type 0} (before now : List Item) (item : Item) (name : List ℕ) (known : KnownRun) (result : Result (Unit {0}) E) → OnOk result (now ≡ before ++ item ∷ []) → OnErr result (now ≡ before)
    → IsKnownRun before name known → IsKnownRun now name known
added_known before now item name known (Ok done) added kept is = subst (λ (items : List Item). IsKnownRun items name known) (sym added) (known_stays before (item ∷ []) name known is)
added_known before now item name known (Err error) added kept is = subst (λ (items : List Item). IsKnownRun items name known) (sym kept) is

-- of what is found under a name once a run is kept under one
pub kept_known : (earlier : List Item) (key name : List ℕ) (known : KnownRun) (old : Option KnownRun) (new : Option KnownRun) → IsKnownRun earlier key known
    → ((x : KnownRun) → old ≡ Some x → IsKnownRun earlier name x) → new ≡ (if bytes_eq key name then Some known else old) → (x : KnownRun) → new ≡ Some x → IsKnownRun earlier name x
kept_known earlier key name known old new is_known others is x found = by (bytes_eq key name) refl (sym is ∙ found)
  where
    by : (b : Bool) → bytes_eq key name ≡ b → (if b then Some known else old) ≡ Some x → IsKnownRun earlier name x
    by true same e =
        let one : known ≡ x = cc in
        subst (λ (k : KnownRun). IsKnownRun earlier name k) one
        (subst (λ (n : List ℕ). IsKnownRun earlier n known) ((bytes_eq-Decides key name).0 same) is_known)
    by false same e = others x e
