-- What each TaskRun of a legal history has, so that its attempts can be planned.
use Rattle.std.specs.Prelude.{◌≡◌, ◌≤◌, ℕ, List, length, Some}
use Rattle.tk_names.specs.Children.{most_attempts}
use Rattle.tk_journal.specs.declared.object.TaskRunState.{TaskRunState}
use Rattle.tk_journal.specs.History.{View}
use Rattle.tk_journal.specs.Sound.{HasSteps, ReadsSteps}

pub record IsFit (task_run : TaskRunState) : Type 0 where
  pub few : length task_run.attempts ≤ most_attempts
  pub steps : HasSteps task_run.spec.start task_run.spec.body
  pub readable : ReadsSteps task_run.spec.body

abbrev pub AreFit : View → Type 0
AreFit view = (name : List ℕ) (task_run : TaskRunState) → view.task_run name ≡ Some task_run → IsFit task_run
