-- What a run weighs and whether its children have whole names, as it is found once for the runs of a Pipeline without a matrix.
use Rattle.std.specs.Prelude.{◌≡◌, ℕ, ◌+◌, ◌≤◌, List, [], All, IsTrue, Option, Some, None, length, sum_by}
use Rattle.tk_types.specs.Behaviour.{tasks_of}
use Rattle.tk_types.specs.declared.object.Item.{Item}
use Rattle.tk_types.specs.declared.object.ItemObject.{ItemObject}
use Rattle.tk_types.specs.declared.object.ItemObject.TheVariants.{PipelineRun}
use Rattle.tk_types.specs.declared.object.PipelineSource.{PipelineSource}
use Rattle.tk_types.specs.declared.object.PipelineSource.TheVariants.{Named, Inlined}
use Rattle.tk_types.specs.declared.object.PipelineSpec.{PipelineSpec}
use Rattle.tk_types.specs.declared.run.RunSpec.{RunSpec}
use Rattle.tk_types.specs.declared.task.PipelineTask.{PipelineTask}
use Rattle.tk_types.specs.declared.task.TaskSpec.{TaskSpec}
use Rattle.tk_early.specs.Possible.{told_count}
use Rattle.tk_resolve.specs.Known.{IsSingle}
use Rattle.tk_resolve.specs.Lookup.{pipeline_named}
use Rattle.tk_resolve.specs.Run.{all_tasks}
use Rattle.tk_resolve.specs.TaskRun.{spec_of}
use Rattle.tk_journal.specs.declared.act.Admission.{Admission}
use Rattle.tk_journal.specs.declared.act.Admission.TheVariants.{Run}
use Rattle.tk_journal.specs.Weight.{child_weight, run_weight}
use Rattle.tk_admit.specs.Apart.{HasWholeNames}
use Rattle.tk_admit.specs.Sound.{IsTaken}
use Rattle.tk_admit.specs.declared.measure.Measure.{Measure}
use Rattle.tk_admit.specs.declared.measure.RunSize.{RunSize}
use Rattle.tk_admit.specs.declared.objects.TakenRuns.{TakenRuns}
use Rattle.tk_admit.specs.declared.taken.Taken.{Taken}

-- what is found of a run
pub record IsMeasureOf (run : Admission) (measure : Measure) : Type 0 where
  pub weight : measure.weight ≡ told_count (run_weight run)
  pub whole : IsTrue measure.whole → HasWholeNames run

-- and of runs one after the other
pub record IsTallied (runs : TakenRuns) : Type 0 where
  pub taken : All IsTaken runs.runs.items
  pub weight : runs.weight ≡ told_count (sum_by (λ (run : Taken). run_weight run.spec) runs.runs.items)
  pub whole : IsTrue runs.whole → All (λ (run : Taken). HasWholeNames run.spec) runs.runs.items

-- the name of a task has at most so many bytes
abbrev pub HasShortName : ℕ → PipelineTask → Type 0
HasShortName most task = length task.name ≤ most

-- no task of the run has a matrix, it weighs so much, and its tasks' names are so long at most
pub record HasSize (spec : RunSpec) (size : RunSize) : Type 0 where
  pub single : All IsSingle (tasks_of spec)
  pub weight : size.weight ≡ told_count (run_weight (Run spec))
  pub longest : All (HasShortName size.longest) (tasks_of spec)

-- the name of the Pipeline that a PipelineRun refers to
abbrev pub source_name : PipelineSource → Option (List ℕ)
source_name (Named name) = Some name
source_name (Inlined spec) = None

abbrev pub named_pipeline : ItemObject → Option (List ℕ)
named_pipeline (PipelineRun run) = source_name run.source
named_pipeline object = None

-- what a task without a matrix weighs, by the spec that its source names
abbrev pub spec_weight : ℕ → Option TaskSpec → ℕ
spec_weight retries None = 0
spec_weight retries (Some spec) = child_weight retries (record { spec = spec; task_name = []; outer = []; fallback = []; bound = [] })

abbrev pub source_weight : List Item → PipelineTask → ℕ
source_weight earlier task = spec_weight task.retries (spec_of earlier task.source)

abbrev pub IsFound : List Item → PipelineTask → Type 0
IsFound earlier task = (spec : TaskSpec) × (spec_of earlier task.source ≡ Some spec)

-- each run of the earlier Pipeline of this name that can start has this size
pub record IsKnownSize (earlier : List Item) (name : List ℕ) (size : RunSize) : Type 0 where
  pub pipeline : PipelineSpec
  pub named : pipeline_named earlier name ≡ Some pipeline
  pub single : All IsSingle (all_tasks pipeline)
  pub found : All (IsFound earlier) (all_tasks pipeline)
  pub weight : size.weight ≡ told_count (7 + length (all_tasks pipeline) + sum_by (source_weight earlier) (all_tasks pipeline))
  pub longest : All (HasShortName size.longest) (all_tasks pipeline)
