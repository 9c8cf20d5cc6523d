-- Runs whose own names show that no two of their TaskRuns share a name.
use Rattle.std.specs.Prelude.{◌≡◌, ◌≢◌, ℕ, ◌<◌, ◌≤◌, List, [], ◌∷◌, All, AllPairs, flat_map, length, take, slice_index, None, false}
use Rattle.tk_types.specs.Behaviour.{tasks_of}
use Rattle.tk_types.specs.Names.{is_in}
use Rattle.tk_types.specs.declared.task.PipelineTask.{PipelineTask}
use Rattle.tk_names.specs.Children.{whole_child_name}
use Rattle.tk_journal.specs.declared.act.Admission.{Admission}
use Rattle.tk_journal.specs.declared.act.Admission.TheVariants.{Run, Task}
use Rattle.tk_admit.specs.Taken.{run_name}
use Rattle.tk_admit.specs.declared.taken.Taken.{Taken}

-- no name stands twice
abbrev pub Differ : List (List ℕ) → Type 0
Differ names = AllPairs (λ (a b : List ℕ). a ≢ b) names

-- the name of a PipelineRun, and that of a standalone TaskRun
abbrev pub pipeline_run_name : Admission → List (List ℕ)
pipeline_run_name (Run spec) = spec.name ∷ []
pipeline_run_name (Task spec) = []

abbrev pub standalone_name : Admission → List (List ℕ)
standalone_name (Run spec) = []
standalone_name (Task spec) = spec.name ∷ []

abbrev pub pipeline_run_names : List Taken → List (List ℕ)
pipeline_run_names runs = flat_map (λ (run : Taken). pipeline_run_name run.spec) runs

abbrev pub standalone_names : List Taken → List (List ℕ)
standalone_names runs = flat_map (λ (run : Taken). standalone_name run.spec) runs

-- the task has one child, whose name isn't shortened
abbrev pub HasWholeName : List ℕ → PipelineTask → Type 0
HasWholeName run task = (task.matrix ≡ None) × (length (whole_child_name run task.name None) ≤ 63)

abbrev pub HasWholeNames : Admission → Type 0
HasWholeNames (Run spec) = All (HasWholeName spec.name) (tasks_of spec)
HasWholeNames (Task spec) = Unit {0}

-- no front of the name that ends before a `-` is one of these
abbrev pub HasNoFront : List (List ℕ) → List ℕ → Type 0
HasNoFront names name = (k : ℕ) → k < length name → slice_index name k ≡ 45 → is_in names (take k name) ≡ false

-- children's names are whole, the names of PipelineRuns differ, so do those of standalone TaskRuns, and none of them begins as a child's
pub record AreApart (runs : List Taken) : Type 0 where
  pub whole : All (λ (run : Taken). HasWholeNames run.spec) runs
  pub pipeline_runs_differ : Differ (pipeline_run_names runs)
  pub standalone_differ : Differ (standalone_names runs)
  pub no_fronts : All (λ (run : Taken). HasNoFront (pipeline_run_names runs) (run_name run.spec)) runs
