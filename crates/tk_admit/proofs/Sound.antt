-- A run that is resolved among valid objects is sound.
use Rattle.std.proofs.Common.{◌≡◌, ◌≢◌, ◌⊎◌, ◌+◌, ◌<◌, ◌^◌, List, [], ◌++◌, Some, length, inl, inr, refl, sym, ap, ◌∙◌, subst, arith}
use Rattle.std.specs.Prelude.{All, AllPairs, IsTrue}
use Rattle.std.specs.List.{list_all}
use Rattle.std.proofs.lemmas.List.Elements.{All-contains, All-nil}
use Rattle.std.proofs.lemmas.Option.{none-some, same_Some}
use Rattle.tk_types.specs.declared.task.PipelineTask.{PipelineTask}
use Rattle.tk_types.specs.declared.run.RunSpec.{RunSpec}
use Rattle.tk_types.specs.declared.object.Item.{Item}
use Rattle.tk_types.specs.declared.object.ItemObject.{ItemObject}
use Rattle.tk_types.specs.declared.object.ItemObject.TheVariants.{Task as TaskObject, Pipeline, TaskRun, PipelineRun, Outcomes, Scenario}
use Rattle.tk_types.specs.declared.object.PipelineSpec.{PipelineSpec}
use Rattle.tk_types.specs.declared.object.RunObject.{RunObject}
use Rattle.tk_types.specs.declared.object.TaskRunObject.{TaskRunObject}
use Rattle.tk_graph.specs.Parents.{parent_names, IsAcyclic}
use Rattle.tk_graph.specs.Unknown.{is_known}
use Rattle.tk_bind.specs.Readings.{ReadsObject, ReadsPipelineSource, ReadsTaskSource, ReadsTaskSpec}
use Rattle.tk_journal.specs.declared.act.Admission.{Admission}
use Rattle.tk_journal.specs.declared.act.Admission.TheVariants.{Run, Task}
use Rattle.tk_resolve.specs.Laws.{HasItsTasks, HasNoTasks, HasOneBodyEach, IsSourceOf, ReadsRunSpec}
use Rattle.tk_resolve.specs.Run.{pipeline_of, resolved_run}
use Rattle.tk_resolve.specs.TaskRun.{resolved_task_run}
use Rattle.tk_validate.specs.Parts.{inlined_pipeline, own_pipeline}
use Rattle.tk_admit.specs.Sound.{IsSound, IsSoundRun, IsValid}
use Rattle.tk_admit.specs.Taken.{resolved}

abbrev pub Differ : PipelineTask → PipelineTask → Type 0
Differ a b = a.name ≢ b.name

abbrev pub WaitsFor : List PipelineTask → PipelineTask → Type 0
WaitsFor tasks task = IsTrue (list_all (is_known tasks) (parent_names task))

-- what holds of the tasks of a run, those of `tasks` and those of `finally`
pub record IsOrdered (tasks finally : List PipelineTask) : Type 0 where
  pub few : length tasks + length finally < 2 ^ 32
  pub names : AllPairs Differ (tasks ++ finally)
  pub parents : All (WaitsFor tasks) (tasks ++ finally)
  pub order : IsAcyclic tasks

-- no tasks
none_differ : AllPairs Differ []
none_differ i j d before inside = let nowhere : ⊥ = omega arith in absurd nowhere

none_ranked : IsAcyclic []
none_ranked = ([], record { count = refl; rising = λ parent task among. absurd (let f : ⊥ = search arith in f) })

none_ordered : IsOrdered [] []
none_ordered = record { few = omega arith; names = none_differ; parents = All-nil (WaitsFor []); order = none_ranked }

-- the laws that it rests on
abbrev pub KnowsOrder : Type 0
KnowsOrder = (item : Item) (pipeline : PipelineSpec) → own_pipeline item.object ≡ Some pipeline → IsValid item → IsOrdered pipeline.tasks pipeline.finally

abbrev pub KnowsSource : Type 0
KnowsSource = (earlier : List Item) (run : RunObject) (pipeline : PipelineSpec) → pipeline_of earlier run.source ≡ Some pipeline → IsSourceOf earlier pipeline run.source

abbrev pub KnowsTasks : Type 0
KnowsTasks = (earlier : List Item) (run : RunObject) → HasNoTasks (resolved_run earlier run) ⊎ HasItsTasks earlier run (resolved_run earlier run)

abbrev pub KnowsBodies : Type 0
KnowsBodies = (earlier : List Item) (run : RunObject) → HasOneBodyEach (resolved_run earlier run)

abbrev pub KnowsItems : Type 0
KnowsItems = (item : Item) → IsValid item → ReadsObject item.object

abbrev pub KnowsRuns : Type 0
KnowsRuns = (earlier : List Item) (run : RunObject) → ReadsPipelineSource run.source → All (λ (i : Item). ReadsObject i.object) earlier → ReadsRunSpec (resolved_run earlier run)

abbrev pub KnowsTaskRuns : Type 0
KnowsTaskRuns = (earlier : List Item) (run : TaskRunObject) → ReadsTaskSource run.source → All (λ (i : Item). ReadsObject i.object) earlier → ReadsTaskSpec (resolved_task_run earlier run).body.spec

-- each valid object reads
pub items_read : KnowsItems → (items : List Item) → All IsValid items → All (λ (i : Item). ReadsObject i.object) items
items_read reads items valid = λ k d inside. reads _ (valid k d inside)

module _ (orders : KnowsOrder) (sources : KnowsSource) (tasks : KnowsTasks) where
  -- the pipeline that a valid run among valid objects runs
  pipeline_ordered : (earlier : List Item) (item : Item) (run : RunObject) (pipeline : PipelineSpec) → All IsValid earlier → IsValid item → item.object ≡ PipelineRun run
      → IsSourceOf earlier pipeline run.source → IsOrdered pipeline.tasks pipeline.finally
  pipeline_ordered earlier item run pipeline all own is (inl same) =
      orders item pipeline (ap own_pipeline is ∙ ap inlined_pipeline same) own
  pipeline_ordered earlier item run pipeline all own is (inr (name, same, (found, among, object))) =
      orders found pipeline (ap own_pipeline object) (All-contains IsValid earlier found all among)

  tasks_ordered : (earlier : List Item) (item : Item) (run : RunObject) (spec : RunSpec) → All IsValid earlier → IsValid item → item.object ≡ PipelineRun run
      → HasNoTasks spec ⊎ HasItsTasks earlier run spec → IsOrdered spec.tasks spec.finally
  tasks_ordered earlier item run spec all own is (inl nothing) =
      subst (λ ts. IsOrdered ts spec.finally) (sym nothing.tasks) (subst (λ ts. IsOrdered [] ts) (sym nothing.finally) none_ordered)
  tasks_ordered earlier item run spec all own is (inr (pipeline, found, alike)) =
      subst (λ ts. IsOrdered ts spec.finally) (sym alike.tasks)
      (subst (λ ts. IsOrdered pipeline.tasks ts) (sym alike.finally) (pipeline_ordered earlier item run pipeline all own is (sources earlier run pipeline found)))

  run_ordered : (earlier : List Item) (item : Item) (run : RunObject) → All IsValid earlier → IsValid item → item.object ≡ PipelineRun run
      → IsOrdered (resolved_run earlier run).tasks (resolved_run earlier run).finally
  run_ordered earlier item run all own is = tasks_ordered earlier item run (resolved_run earlier run) all own is (tasks earlier run)

sound_run : (spec : RunSpec) → IsOrdered spec.tasks spec.finally → HasOneBodyEach spec → ReadsRunSpec spec → IsSoundRun spec
sound_run spec ordered bodies reads =
    record {
      few_tasks = ordered.few;
      names_differ = ordered.names;
      parents_exist = ordered.parents;
      acyclic = ordered.order;
      one_body_each = bodies;
      readable = reads;
    }

module _ (orders : KnowsOrder) (sources : KnowsSource) (tasks : KnowsTasks) (bodies : KnowsBodies) (items : KnowsItems) (runs : KnowsRuns) (task_runs : KnowsTaskRuns) where
  by_object : (earlier : List Item) (item : Item) (object : ItemObject) (spec : Admission) → All IsValid earlier → IsValid item → item.object ≡ object → resolved earlier object ≡ Some spec → IsSound spec
  by_object earlier item (PipelineRun run) spec all own is found =
      subst IsSound (same_Some (Run (resolved_run earlier run)) spec found)
      (sound_run (resolved_run earlier run)
      (run_ordered orders sources tasks earlier item run all own is)
      (bodies earlier run)
      (runs earlier run (subst ReadsObject is (items item own)) (items_read items earlier all)))
  by_object earlier item (TaskRun run) spec all own is found =
      subst IsSound (same_Some (Task (resolved_task_run earlier run)) spec found)
      (task_runs earlier run (subst ReadsObject is (items item own)) (items_read items earlier all))
  by_object earlier item (TaskObject name object) spec all own is found = absurd (none-some spec found)
  by_object earlier item (Pipeline name object) spec all own is found = absurd (none-some spec found)
  by_object earlier item (Outcomes name object) spec all own is found = absurd (none-some spec found)
  by_object earlier item (Scenario name object) spec all own is found = absurd (none-some spec found)

  pub taken_is_sound : (earlier : List Item) (item : Item) (spec : Admission) → All IsValid earlier → IsValid item → resolved earlier item.object ≡ Some spec → IsSound spec
  taken_is_sound earlier item spec all own found = by_object earlier item item.object spec all own refl found
