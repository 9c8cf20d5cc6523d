-- What holds of each object that is read and valid by itself.
use Rattle.std.proofs.Common.{◌≡◌, ℕ, ◌+◌, ◌<◌, ◌≤◌, Bool, true, false, not, ◌&&◌, ◌||◌, List, [], ◌∷◌, ◌++◌, length, map, Option, Some, None, refl}
use Rattle.std.specs.Prelude.{All, codes, nat_lt}
use Rattle.std.specs.Option.{ForSome, option_map_or}
use Rattle.std.proofs.lemmas.Bool.{ltb-false}
use Rattle.std.proofs.lemmas.List.Elements.{All-append}
use Rattle.tk_types.specs.declared.object.Item.{Item}
use Rattle.tk_types.specs.declared.object.ItemObject.{ItemObject}
use Rattle.tk_types.specs.declared.object.ItemObject.TheVariants.{Task, Pipeline, TaskRun, PipelineRun, Outcomes, Scenario}
use Rattle.tk_types.specs.declared.object.PipelineSource.{PipelineSource}
use Rattle.tk_types.specs.declared.object.PipelineSource.TheVariants.{Named as NamedPipeline, Inlined as InlinedPipeline}
use Rattle.tk_types.specs.declared.object.PipelineSpec.{PipelineSpec}
use Rattle.tk_types.specs.declared.object.TaskRunObject.{TaskRunObject}
use Rattle.tk_types.specs.declared.task.Matrix.{Matrix}
use Rattle.tk_types.specs.declared.task.PipelineTask.{PipelineTask}
use Rattle.tk_types.specs.declared.task.TaskSource.{TaskSource}
use Rattle.tk_types.specs.declared.task.TaskSource.TheVariants.{Named, Inlined}
use Rattle.tk_types.specs.declared.task.TaskSpec.{TaskSpec}
use Rattle.tk_types.specs.declared.value.Param.{Param}
use Rattle.tk_types.specs.declared.value.ParamSpec.{ParamSpec}
use Rattle.tk_types.specs.First.{first_in}
use Rattle.tk_types.specs.Limits.{most_retries, most_steps, most_tasks}
use Rattle.tk_types.specs.Lists.{is_empty}
use Rattle.tk_types.specs.Place.{Place, ◌▸◌}
use Rattle.tk_names.specs.Rules.{is_dns_label, is_param_name}
use Rattle.tk_time.specs.Duration.{longest_duration}
use Rattle.tk_validate.specs.Parts.{RuleOn, on_each_task, on_inlined, on_pipeline_source}
use Rattle.tk_validate.specs.Sizes.{over, pipeline_within, retries_within, sizes, steps_within, task_within}
use Rattle.tk_validate.specs.Texts.{alone_texts, texts}
use Rattle.tk_validate.specs.Validate.{item_fault, rules}
use Rattle.tk_verdict.specs.Gives.{has_entry}
use Rattle.tk_read_laws.proofs.Nothing.{all_none, each_none, first_none, not_refused, rest_none}
use Rattle.tk_read_laws.specs.Read.{IsRead, IsReadObject, IsReadPipelineSource, IsReadPipelineTask, IsReadSource, IsReadTask}
use Rattle.tk_sound.proofs.Words.{SeesWords, steps_see}

-- a Task has few steps, and one at least
pub record IsSizedTask (spec : TaskSpec) : Type 0 where
  pub some : 0 < length spec.steps
  pub few : length spec.steps ≤ most_steps

-- what a Task that stands alone has beside that
pub record IsAloneTask (spec : TaskSpec) : Type 0 where
  pub sized : IsSizedTask spec
  pub params : All (λ (p : ParamSpec). is_param_name p.name ≡ true) spec.params
  pub sees : SeesWords spec

-- what holds of a spec that stands in a source
abbrev pub OnSource : (TaskSpec → Type 0) → TaskSource → Type 0
OnSource P (Named name) = Unit {0}
OnSource P (Inlined spec) = P spec

-- the name of a pipeline task is a label, its Task has few steps, its matrix an entry, and its retries and timeout are within the limits
pub record IsKeptTask (task : PipelineTask) : Type 0 where
  pub label : is_dns_label task.name ≡ true
  pub source : OnSource IsSizedTask task.source
  pub entry : has_entry task ≡ true
  pub retries : task.retries ≤ most_retries
  pub timeout : task.timeout ≤ longest_duration

-- a pipeline has few tasks, each of them so
pub record IsKeptPipeline (pipeline : PipelineSpec) : Type 0 where
  pub few : length pipeline.tasks + length pipeline.finally ≤ most_tasks
  pub tasks : All IsKeptTask (pipeline.tasks ++ pipeline.finally)

abbrev pub OnPipelineSource : PipelineSource → Type 0
OnPipelineSource (NamedPipeline name) = Unit {0}
OnPipelineSource (InlinedPipeline spec) = IsKeptPipeline spec

-- a standalone TaskRun has such a Task, and few retries
pub record IsKeptTaskRun (run : TaskRunObject) : Type 0 where
  pub source : OnSource IsAloneTask run.source
  pub retries : run.retries ≤ most_retries

abbrev pub IsKeptObject : ItemObject → Type 0
IsKeptObject (Task name spec) = IsAloneTask spec
IsKeptObject (Pipeline name spec) = IsKeptPipeline spec
IsKeptObject (TaskRun run) = IsKeptTaskRun run
IsKeptObject (PipelineRun run) = OnPipelineSource run.source
IsKeptObject object = Unit {0}

abbrev pub IsKept : Item → Type 0
IsKept item = IsKeptObject item.object

-- sizes
not_over : (limit : ℕ) (at : Place) (count : ℕ) → over limit at count ≡ None → count ≤ limit
not_over limit at count e = ltb-false limit count (not_refused (nat_lt limit count) _ e)

abbrev IsSmall : TaskSpec → Type 0
IsSmall spec = length spec.steps ≤ most_steps

source_small : (at : Place) (source : TaskSource) → on_inlined steps_within at source ≡ None → OnSource IsSmall source
source_small at (Named name) e = tt
source_small at (Inlined spec) e = not_over most_steps _ (length spec.steps) e

-- what sizes alone say of a pipeline task
record IsSmallTask (task : PipelineTask) : Type 0 where
  source : OnSource IsSmall task.source
  retries : task.retries ≤ most_retries

task_small : (is_last : Bool) (at : Place) (task : PipelineTask) → task_within is_last at task ≡ None → IsSmallTask task
task_small is_last at task e =
    record {
      source = source_small at task.source (first_none _ _ e);
      retries = not_over most_retries _ task.retries (first_none (retries_within at task.retries) None (rest_none (on_inlined steps_within at task.source) _ e));
    }

each_small : (at : Place) (pipeline : PipelineSpec) → on_each_task task_within at pipeline ≡ None → All IsSmallTask (pipeline.tasks ++ pipeline.finally)
each_small at pipeline e =
    let found = all_none (first_in (task_within false) (at ▸ codes "tasks") pipeline.tasks ∷ first_in (task_within true) (at ▸ codes "finally") pipeline.finally ∷ []) e in
    All-append IsSmallTask pipeline.tasks pipeline.finally
    (each_none (task_within false) IsSmallTask (task_small false) (at ▸ codes "tasks") pipeline.tasks found.0)
    (each_none (task_within true) IsSmallTask (task_small true) (at ▸ codes "finally") pipeline.finally found.1.0)

-- sources
source_sized : (source : TaskSource) → IsReadSource source → OnSource IsSmall source → OnSource IsSizedTask source
source_sized (Named name) read small = tt
source_sized (Inlined spec) read small = record { some = read.steps; few = small }

alone : (given : List Param) (at : Place) (spec : TaskSpec) → IsReadTask spec → IsSmall spec → alone_texts given at spec ≡ None → IsAloneTask spec
alone given at spec read small e = record { sized = record { some = read.steps; few = small }; params = read.params; sees = steps_see given at spec e }

source_alone : (given : List Param) (at : Place) (source : TaskSource) → IsReadSource source → OnSource IsSmall source → on_inlined (alone_texts given) at source ≡ None → OnSource IsAloneTask source
source_alone given at (Named name) read small e = tt
source_alone given at (Inlined spec) read small e = alone given (at ▸ codes "taskSpec") spec read small e

-- tasks of pipelines
one_there : (a b : Bool) → (a && b) ≡ false → (not a || not b) ≡ true
one_there true true e = absurd (let f : ⊥ = cc in f)
one_there true false e = refl
one_there false b e = refl

entry_by : (matrix : Option Matrix) → ForSome matrix (λ (m : Matrix). (is_empty m.params && is_empty m.include) ≡ false)
    → option_map_or (λ (m : Matrix). not (is_empty m.params) || not (is_empty m.include)) matrix true ≡ true
entry_by None read = refl
entry_by (Some m) read = one_there (is_empty m.params) (is_empty m.include) (read m refl)

kept_task : (task : PipelineTask) → IsReadPipelineTask task → IsSmallTask task → IsKeptTask task
kept_task task read small =
    record {
      label = read.label;
      source = source_sized task.source read.source small.source;
      entry = entry_by task.matrix read.matrix;
      retries = small.retries;
      timeout = read.timeout;
    }

kept_pipeline : (at : Place) (pipeline : PipelineSpec) → All IsReadPipelineTask (pipeline.tasks ++ pipeline.finally) → pipeline_within at pipeline ≡ None → IsKeptPipeline pipeline
unfolding pipeline_within
kept_pipeline at pipeline read e =
    let total = length pipeline.tasks + length pipeline.finally in
    let small = each_small at pipeline (first_none (on_each_task task_within at pipeline) None (rest_none (over most_tasks (at ▸ codes "tasks") total) _ e)) in
    record {
      few = not_over most_tasks (at ▸ codes "tasks") total (first_none _ _ e);
      tasks = λ k d inside. kept_task _ (read k d inside) (small k d inside);
    }

kept_source : (at : Place) (source : PipelineSource) → IsReadPipelineSource source → on_pipeline_source pipeline_within at source ≡ None → OnPipelineSource source
kept_source at (NamedPipeline name) read e = tt
kept_source at (InlinedPipeline spec) read e = kept_pipeline (at ▸ codes "pipelineSpec") spec read e

-- objects
kept_by : (at : Place) (object : ItemObject) → IsReadObject object → sizes at object ≡ None → texts at object ≡ None → IsKeptObject object
kept_by at (Task name spec) read e f = alone [] at spec read (not_over most_steps _ (length spec.steps) (first_none (steps_within at spec) None e)) (first_none (alone_texts [] at spec) None f)
kept_by at (Pipeline name spec) read e f = kept_pipeline at spec read (first_none (pipeline_within at spec) None e)
kept_by at (TaskRun run) read e f =
    let small = source_small at run.source (first_none (on_inlined steps_within at run.source) _ e) in
    record {
      source = source_alone run.params at run.source read.source small (first_none (on_inlined (alone_texts run.params) at run.source) None f);
      retries = not_over most_retries _ run.retries (first_none (retries_within at run.retries) None (rest_none (on_inlined steps_within at run.source) _ e));
    }
kept_by at (PipelineRun run) read e f = kept_source at run.source read.source (first_none (on_pipeline_source pipeline_within at run.source) None e)
kept_by at (Outcomes name spec) read e f = tt
kept_by at (Scenario name spec) read e f = tt

pub kept : (item : Item) → IsRead item → item_fault item ≡ None → IsKept item
kept item read e =
    let at = item.place ▸ codes "spec" in
    let found = all_none (map (λ (rule : RuleOn ItemObject). rule at item.object) rules) e in
    kept_by at item.object read found.0 found.1.1.1.1.1.1.0
