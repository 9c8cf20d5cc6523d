-- When an entry is justified, by what its actor sees and by its moment.
use Rattle.std.specs.Prelude.{◌≡◌, ℕ, List, None}
use Rattle.tk_journal.specs.declared.entry.Actor.{Actor}
use Rattle.tk_journal.specs.declared.act.Closing.{Closing}
use Rattle.tk_journal.specs.declared.act.Act.{Act}
use Rattle.tk_journal.specs.Lists.{Has}
use Rattle.tk_journal.specs.History.{View}
use Rattle.tk_journal.specs.RunRows.{StartRow, ScheduleRow, MakeTaskRunRow, HaltRow, CancelRow, CloseRunRow, IsRunWorker}
use Rattle.tk_journal.specs.TaskRunRows.{OpenRow, MakePodRow, CloseAttemptRow, CloseTaskRunRow, IsTaskWorker}
use Rattle.tk_journal.specs.PodRows.{ClaimRow, EndRow}
use Rattle.tk_journal.specs.AskRows.{AskIsJustified}
use Rattle.tk_journal.specs.declared.entry.Actor.TheVariants as actors
use Rattle.tk_journal.specs.declared.act.Closing.TheVariants as closings
use Rattle.tk_journal.specs.declared.act.Act.TheVariants as acts

abbrev pub CloseIsJustified : View → Actor → List ℕ → Closing → Type 0
CloseIsJustified view actor name (closings.Attempt outcome) = IsTaskWorker actor × Has (view.task_run name) (CloseAttemptRow view name outcome)
CloseIsJustified view actor name closings.TaskRun = IsTaskWorker actor × Has (view.task_run name) CloseTaskRunRow
CloseIsJustified view actor name (closings.Run condition skipped results) =
    IsRunWorker actor × Has (view.run name) (CloseRunRow view (closings.Run condition skipped results))

abbrev pub IsJustified : View → Actor → ℕ → Act → Type 0
IsJustified view actor moment (acts.Admit name spec pending asked root) = actor ≡ actors.Admission
IsJustified view actor moment (acts.Ask name status) = (actor ≡ actors.User) × AskIsJustified view name status
IsJustified view actor moment (acts.Start name) = IsRunWorker actor × Has (view.run name) StartRow
IsJustified view actor moment (acts.Schedule name task bindings) = IsRunWorker actor × Has (view.run name) (ScheduleRow view task bindings)
IsJustified view actor moment (acts.MakeTaskRun name run task index mark) = IsRunWorker actor × Has (view.run run) (MakeTaskRunRow view name task index mark)
IsJustified view actor moment (acts.Halt name stop) = IsRunWorker actor × Has (view.run name) (HaltRow view moment stop)
IsJustified view actor moment (acts.CancelTaskRun name) = IsRunWorker actor × Has (view.task_run name) (CancelRow view)
IsJustified view actor moment (acts.OpenAttempt name) = IsTaskWorker actor × Has (view.task_run name) OpenRow
IsJustified view actor moment (acts.MakePod name task_run attempt plan mark) =
    IsTaskWorker actor × Has (view.task_run task_run) (MakePodRow name task_run attempt plan mark) × (view.pod name ≡ None)
IsJustified view actor moment (acts.ClaimPod name) = Has (view.pod name) (ClaimRow view actor)
IsJustified view actor moment (acts.EndPod name exits outcome) = Has (view.pod name) (EndRow view actor moment exits outcome)
IsJustified view actor moment (acts.Close name closing) = CloseIsJustified view actor name closing
