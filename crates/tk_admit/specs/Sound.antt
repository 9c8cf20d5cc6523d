-- What admission has found of a run before it goes on.
use Rattle.std.specs.Prelude.{◌≡◌, ◌≢◌, ◌+◌, ◌<◌, ◌≤◌, ◌^◌, None, All, AllPairs, IsTrue, length}
use Rattle.std.specs.List.{list_all}
use Rattle.std.specs.Option.{ForSome}
use Rattle.tk_types.specs.declared.task.PipelineTask.{PipelineTask}
use Rattle.tk_types.specs.declared.run.RunSpec.{RunSpec}
use Rattle.tk_types.specs.declared.object.Item.{Item}
use Rattle.tk_graph.specs.Parents.{parent_names, IsAcyclic}
use Rattle.tk_graph.specs.Unknown.{is_known}
use Rattle.tk_bind.specs.Readings.{ReadsTaskSpec}
use Rattle.tk_journal.specs.declared.act.Admission.{Admission}
use Rattle.tk_journal.specs.declared.act.Admission.TheVariants.{Run, Task}
use Rattle.tk_resolve.specs.Laws.{HasOneBodyEach, ReadsRunSpec}
use Rattle.tk_types.specs.Limits.{most_combinations}
use Rattle.tk_early.specs.Possible.{possible_children}
use Rattle.tk_validate.specs.Validate.{item_fault}
use Rattle.tk_admit.specs.declared.taken.Taken.{Taken}
use Rattle.tk_types.specs.Behaviour.{tasks_of}

-- each object is valid by itself
abbrev pub IsValid : Item → Type 0
IsValid item = item_fault item ≡ None

-- the tasks of a run are few, with names that differ and parents that exist, without a cycle; there is one body a task; texts have readings
pub record IsSoundRun (spec : RunSpec) : Type 0 where
  pub few_tasks : length spec.tasks + length spec.finally < 2 ^ 32
  pub names_differ : AllPairs (λ (a b : PipelineTask). a.name ≢ b.name) (tasks_of spec)
  pub parents_exist : All (λ (task : PipelineTask). IsTrue (list_all (is_known spec.tasks) (parent_names task))) (tasks_of spec)
  pub acyclic : IsAcyclic spec.tasks
  pub one_body_each : HasOneBodyEach spec
  pub readable : ReadsRunSpec spec

abbrev pub IsSound : Admission → Type 0
IsSound (Run spec) = IsSoundRun spec
IsSound (Task spec) = ReadsTaskSpec spec.body.spec

-- the children that each task may have are few (Tekton, Matrix, Concurrency Control)
abbrev pub HasFewChildren : RunSpec → PipelineTask → Type 0
HasFewChildren spec task = ForSome (possible_children spec task) (λ children. children ≤ most_combinations)

abbrev pub HasFewEach : Admission → Type 0
HasFewEach (Run spec) = All (HasFewChildren spec) (tasks_of spec)
HasFewEach (Task spec) = Unit {0}

-- a run that was taken
pub record IsTaken (run : Taken) : Type 0 where
  pub sound : IsSound run.spec
  pub few_children : HasFewEach run.spec
