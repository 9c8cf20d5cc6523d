-- The facts of which the calls of this crate speak.
use Rattle.std.specs.Prelude.{◌≡◌, ◌≢◌, ◌<◌, ◌^◌, ℕ, Bool, false, ◌&&◌, ◌==◌, nat_lt, List, ◌++◌, length, flat_map, All, AllPairs, IsTrue}
use Rattle.std.specs.List.{list_all}
use Rattle.tk_types.specs.declared.task.PipelineTask.{PipelineTask}
use Rattle.tk_types.specs.declared.task.TaskBody.{TaskBody}
use Rattle.tk_types.specs.declared.run.Facts.{Facts}
use Rattle.tk_types.specs.declared.run.Child.{Child}
use Rattle.tk_vars.specs.Reading.{HasReading}
use Rattle.tk_graph.specs.Parents.{parent_names, IsAcyclic}
use Rattle.tk_graph.specs.Results.{params_texts, task_texts}
use Rattle.tk_graph.specs.Unknown.{is_known}
use Rattle.tk_bind.specs.Fits.{step_texts}
use Rattle.tk_verdict.specs.Facts.{all_tasks, task_total}

abbrev pub is_same_child : Child → Child → Bool
is_same_child a b = a.task == b.task && a.index == b.index

-- every text that is substituted
abbrev pub facts_texts : Facts → List (List ℕ)
facts_texts facts =
    flat_map task_texts (all_tasks facts) ++ flat_map (λ (body : TaskBody). flat_map step_texts body.spec.steps) facts.spec.bodies ++ params_texts facts.spec.results

-- each parent that a task of `tasks` or of `finally` names is a task of `tasks`
abbrev pub HasParents : Facts → Type 0
HasParents facts = All (λ (task : PipelineTask). IsTrue (list_all (is_known facts.spec.tasks) (parent_names task))) (all_tasks facts)

-- the children differ and are of tasks that exist; task names differ; there is one body a task; parents exist, without a cycle; texts have readings
pub record IsWellFormed (facts : Facts) : Type 0 where
  pub few_tasks : task_total facts < 2 ^ 32
  pub children_differ : AllPairs (λ a b. is_same_child a b ≡ false) facts.children
  pub children_exist : IsTrue (list_all (λ (c : Child). nat_lt c.task (task_total facts)) facts.children)
  pub names_differ : AllPairs (λ (a b : PipelineTask). a.name ≢ b.name) (all_tasks facts)
  pub one_body_each : length facts.spec.bodies ≡ task_total facts
  pub parents_exist : HasParents facts
  pub acyclic : IsAcyclic facts.spec.tasks
  pub readable : All HasReading (facts_texts facts)
