-- Whose child a TaskRun is, at any positions of a legal history.
use Rattle.std.proofs.Common.{◌≡◌, ℕ, ◌<◌, List, length, Some, sym, ◌∙◌, ap, Contains}
use Rattle.std.proofs.lemmas.Option.{same_Some}
use Rattle.tk_types.specs.declared.run.RunSpec.{RunSpec}
use Rattle.tk_journal.specs.declared.entry.Entry.{Entry}
use Rattle.tk_journal.specs.declared.object.RunState.{RunState}
use Rattle.tk_journal.specs.declared.object.Scheduled.{Scheduled}
use Rattle.tk_journal.specs.declared.object.TaskRunState.{TaskRunState}
use Rattle.tk_journal.specs.Grows.{RunGrows, TaskRunGrows}
use Rattle.tk_journal.specs.History.{past, run_of, task_run_of}
use Rattle.tk_journal.specs.Legal.{IsLegal}
use Rattle.tk_journal.specs.Lists.{Has}
use Rattle.tk_journal.specs.Names.{child_name_of}
use Rattle.tk_journal.specs.Right.{IsChildOf}
use Rattle.tk_journal.proofs.Basics.{prefix_contains}
use Rattle.tk_journal.proofs.Children.{own_children}
use Rattle.tk_journal.proofs.Claimed.{grows_past}
use Rattle.tk_journal.proofs.Statements as laws_of

module _ (history : List Entry) (legal : IsLegal history) (r m : ℕ) (name : List ℕ) (run : RunState) (there : run_of (past r history) name ≡ Some run) where
  later : Has (run_of history name) (RunGrows run)
  later = (grows_past r history legal).runs name run there

  -- the TaskRun at the name of a scheduled child is that child
  pub own_child : (part : Scheduled) → Contains run.scheduled part → (index : ℕ) → index < length part.bindings → (task_run : TaskRunState)
      → task_run_of (past m history) (child_name_of run.spec part.task index) ≡ Some task_run
      → (task_run.run ≡ Some name) × (task_run.task ≡ part.task) × (task_run.index ≡ index)
  own_child part has index below task_run at =
      let child : Has (task_run_of history (child_name_of run.spec part.task index)) (TaskRunGrows task_run) = (grows_past m history legal).task_runs (child_name_of run.spec part.task index) task_run at in
      let found = own_children history legal name later.it later.is part (prefix_contains run.scheduled later.it.scheduled part later.has.scheduled has) index below child.it
      (ap (λ (s : RunSpec). task_run_of history (child_name_of s part.task index)) later.has.spec ∙ child.is) in
      (sym child.has.run ∙ found.0, sym child.has.task ∙ found.1, sym child.has.index ∙ found.2)

  -- a TaskRun of the run has its child's name
  pub own_name : (other : List ℕ) (task_run : TaskRunState) → task_run_of (past m history) other ≡ Some task_run → task_run.run ≡ Some name → other ≡ child_name_of run.spec task_run.task task_run.index
  own_name other task_run at is =
      let its : Has (run_of (past m history) name) (IsChildOf (past m history) other task_run.task task_run.index task_run.binding) = ((laws_of.lasting history legal m).0.task_runs other task_run at).child name is in
      let last : Has (run_of history name) (RunGrows its.it) = (grows_past m history legal).runs name its.it its.is in
      let same : last.it ≡ later.it = same_Some last.it later.it (sym last.is ∙ later.is) in
      let specs : its.it.spec ≡ run.spec = sym last.has.spec ∙ (ap (λ (x : RunState). x.spec) same ∙ later.has.spec) in
      its.has.named ∙ ap (λ (s : RunSpec). child_name_of s task_run.task task_run.index) specs
