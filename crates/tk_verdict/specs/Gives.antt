-- What the rules give a task, whatever children it has and whatever stops are recorded.
use Rattle.std.specs.Prelude.{◌≡◌, ℕ, ◌-◌, ◌≤◌, Bool, true, not, ◌||◌, List, [], map, length, take, Some, None, IsTrue, slice_get}
use Rattle.std.specs.List.{list_all, range_with_len}
use Rattle.std.specs.Option.{option_map_or}
use Rattle.tk_types.specs.declared.task.Matrix.{Matrix}
use Rattle.tk_types.specs.declared.task.PipelineTask.{PipelineTask}
use Rattle.tk_types.specs.declared.run.Child.{Child}
use Rattle.tk_types.specs.declared.run.Facts.{Facts}
use Rattle.tk_types.specs.declared.run.RunSpec.{RunSpec}
use Rattle.tk_types.specs.declared.verdict.Binding.{Binding}
use Rattle.tk_types.specs.declared.verdict.Verdict.{Verdict}
use Rattle.tk_types.specs.Lists.{is_empty}
use Rattle.tk_verdict.specs.Facts.{all_tasks, children_of}
use Rattle.tk_verdict.specs.Labels.{labels_of, labelled_parents, bindings_in}
use Rattle.tk_verdict.specs.Rows.{is_good_parent, task_row, finally_row}
use Rattle.tk_verdict.specs.Verdict.{label_at, is_done}
use Rattle.tk_bind.specs.declared.env.Env.{Env}
use Rattle.tk_verdict.specs.Words.{task_env, finally_env}

-- the label of the task at a place, and those of `tasks`
abbrev pub label_of : Facts → ℕ → Verdict
label_of facts place = label_at (labels_of facts) place

abbrev pub first_labels : Facts → List Verdict
first_labels facts = take (length facts.spec.tasks) (labels_of facts)

-- to a task of `tasks`: all its parents are good, no row of 1 to 5 holds, and these are the bindings of its combinations
pub record GivesTask (facts : Facts) (place : ℕ) (task : PipelineTask) (bindings : List Binding) : Type 0 where
  pub of_tasks : slice_get facts.spec.tasks place ≡ Some task
  pub good : IsTrue (list_all (is_good_parent facts) (labelled_parents facts (labels_of facts) place))
  pub no_row : task_row facts (labelled_parents facts (labels_of facts) place) (task_env facts task) place task ≡ None
  pub bound : bindings_in (task_env facts task) task ≡ Some bindings

-- to a task of `finally`: all of `tasks` are done, no row of 2 to 5 holds, and these are the bindings of its combinations
pub record GivesFinal (facts : Facts) (place : ℕ) (task : PipelineTask) (bindings : List Binding) : Type 0 where
  pub past : length facts.spec.tasks ≤ place
  pub of_finally : slice_get facts.spec.finally (place - length facts.spec.tasks) ≡ Some task
  pub done : IsTrue (list_all is_done (first_labels facts))
  pub no_row : finally_row facts (finally_env facts (first_labels facts) task) place task ≡ None
  pub bound : bindings_in (finally_env facts (first_labels facts) task) task ≡ Some bindings

-- the task at the place is to have children with these bindings
pub data Gives (facts : Facts) (place : ℕ) (bindings : List Binding) : Type 0 where
  to_task : {task : PipelineTask} → GivesTask facts place task bindings → Gives facts place bindings
  to_final : {task : PipelineTask} → GivesFinal facts place task bindings → Gives facts place bindings

-- the task has no children
abbrev pub HasNoChildren : Facts → ℕ → Type 0
HasNoChildren facts place = children_of facts place ≡ []

-- the task's children are those of the first so many indexes, in order
abbrev pub HasExactly : Facts → ℕ → ℕ → Type 0
HasExactly facts place count = map (λ (c : Child). c.index) (children_of facts place) ≡ range_with_len 0 count

-- each matrix has a list or an include entry
abbrev pub has_entry : PipelineTask → Bool
has_entry task = option_map_or (λ (m : Matrix). not (is_empty m.params) || not (is_empty m.include)) task.matrix true

abbrev pub HasEntries : Facts → Type 0
HasEntries facts = IsTrue (list_all has_entry (all_tasks facts))
