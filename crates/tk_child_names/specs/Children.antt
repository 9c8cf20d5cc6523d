-- What is asked of an admission whose TaskRuns are to have their names made.
use Rattle.std.specs.Prelude.{ℕ, ◌≤◌, List, [], All, false}
use Rattle.std.specs.Option.{ForSome}
use Rattle.tk_types.specs.Behaviour.{tasks_of}
use Rattle.tk_types.specs.Limits.{most_combinations}
use Rattle.tk_types.specs.declared.run.RunSpec.{RunSpec}
use Rattle.tk_types.specs.declared.task.PipelineTask.{PipelineTask}
use Rattle.tk_types.specs.declared.task.TaskSource.TheVariants.{Named}
use Rattle.tk_bind.specs.Readings.{ReadsMatrix}
use Rattle.tk_journal.specs.declared.act.Admission.{Admission}
use Rattle.tk_journal.specs.declared.act.Admission.TheVariants.{Run, Task}
use Rattle.tk_journal.specs.Names.{possible_of}

-- the texts of the task's matrix have readings, where it has one
abbrev pub ReadsItsMatrix : PipelineTask → Type 0
ReadsItsMatrix task = ForSome task.matrix ReadsMatrix

-- the children that the task may have are few (Tekton, Matrix, Concurrency Control)
abbrev pub HasFewChildren : RunSpec → PipelineTask → Type 0
HasFewChildren spec task = possible_of spec task ≤ most_combinations

-- the same of each task of an admission
abbrev pub ReadsMatrices : Admission → Type 0
ReadsMatrices (Run spec) = All ReadsItsMatrix (tasks_of spec)
ReadsMatrices (Task spec) = Unit {0}

abbrev pub HasFewEach : Admission → Type 0
HasFewEach (Run spec) = All (HasFewChildren spec) (tasks_of spec)
HasFewEach (Task spec) = Unit {0}

-- the task's matrix and its retries alone, by which its children are counted
abbrev pub with_matrix_alone : PipelineTask → PipelineTask
with_matrix_alone task =
    record {
      name = [];
      source = Named [];
      params = [];
      matrix = task.matrix;
      run_after = [];
      when = [];
      retries = task.retries;
      timeout = 0;
      ignore_failure = false;
      spaces = [];
    }
