-- How many entries a legal history may have: what its Admit and Ask entries allow.
use Rattle.std.specs.Prelude.{◌≤◌, ℕ, ◌+◌, ◌*◌, List, [], ◌∷◌, length, sum_by}
use Rattle.std.specs.List.{zip}
use Rattle.tk_types.specs.declared.run.RunSpec.{RunSpec}
use Rattle.tk_types.specs.declared.task.PipelineTask.{PipelineTask}
use Rattle.tk_types.specs.declared.task.TaskBody.{TaskBody}
use Rattle.tk_journal.specs.declared.act.Admission.{Admission}
use Rattle.tk_journal.specs.declared.act.Admission.TheVariants.{Run, Task}
use Rattle.tk_journal.specs.declared.act.Act.{Act}
use Rattle.tk_journal.specs.declared.act.Act.TheVariants as acts
use Rattle.tk_journal.specs.declared.entry.Entry.{Entry}
use Rattle.tk_journal.specs.Legal.{IsLegal}
use Rattle.tk_types.specs.Behaviour.{tasks_of}
use Rattle.tk_journal.specs.Names.{possible_of}

-- a TaskRun, with its retries and the steps of its body
abbrev pub child_weight : ℕ → TaskBody → ℕ
child_weight retries body = 3 + (retries + 1) * (5 + 2 * length body.spec.steps)

-- the children that a task may have; without a matrix there is one
abbrev pub task_weight : RunSpec → PipelineTask × TaskBody → ℕ
task_weight spec (task, body) = possible_of spec task * child_weight task.retries body

-- a run with its tasks and their children, and a standalone TaskRun
abbrev pub run_weight : Admission → ℕ
run_weight (Run spec) = 7 + length (tasks_of spec) + sum_by (task_weight spec) (zip (tasks_of spec) spec.bodies)
run_weight (Task spec) = 1 + child_weight spec.retries spec.body

abbrev pub act_weight : Act → ℕ
act_weight (acts.Admit name spec pending asked root) = run_weight spec
act_weight (acts.Ask name status) = 1
act_weight _ = 0

abbrev pub weight : List Entry → ℕ
weight [] = 0
weight (e ∷ older) = weight older + act_weight e.act

abbrev pub WithinWeight : Type 0
WithinWeight = (history : List Entry) → IsLegal history → length history ≤ weight history
