-- How a run goes on once its children ended.
use Rattle.std.specs.Prelude.{◌≡◌, ℕ, ◌<◌, [], length, Contains, Some, false, IsTrue, slice_get}
use Rattle.tk_types.specs.declared.task.PipelineTask.{PipelineTask}
use Rattle.tk_types.specs.declared.run.Child.{Child}
use Rattle.tk_types.specs.declared.run.Facts.{Facts}
use Rattle.tk_types.specs.declared.run.Outcome.{Outcome}
use Rattle.tk_types.specs.declared.verdict.Verdict.TheVariants.{Ready}
use Rattle.tk_verdict.specs.Facts.{task_total, is_good}
use Rattle.tk_verdict.specs.Gives.{label_of, HasNoChildren}
use Rattle.tk_verdict.specs.Verdict.{is_done}

-- each task is done
abbrev pub AllDone : Facts → Type 0
AllDone facts = (place : ℕ) → place < task_total facts → IsTrue (is_done (label_of facts place))

-- some task is Ready
pub record SomeReady (facts : Facts) : Type 0 where
  pub place : ℕ
  pub within : place < task_total facts
  pub ready : label_of facts place ≡ Ready

-- a child of `tasks` ended, and its outcome isn't good
pub record HasBadChild (facts : Facts) : Type 0 where
  pub child : Child
  pub among : Contains facts.children child
  pub task : PipelineTask
  pub of_tasks : slice_get facts.spec.tasks child.task ≡ Some task
  pub outcome : Outcome
  pub ended : child.outcome ≡ Some outcome
  pub bad : is_good task outcome ≡ false

-- a task of `tasks` has no children
pub record HasIdle (facts : Facts) : Type 0 where
  pub place : ℕ
  pub within : place < length facts.spec.tasks
  pub idle : HasNoChildren facts place

-- the run has failed, and that isn't recorded
pub record IsFailing (facts : Facts) : Type 0 where
  pub no_stop : facts.stops ≡ []
  pub bad : HasBadChild facts
  pub idle : HasIdle facts
