-- When an ask of a user is justified.
use Rattle.std.specs.Prelude.{◌≡◌, ◌<◌, ℕ, List, None, true, false, All}
use Rattle.tk_types.specs.declared.object.Asked.{Asked}
use Rattle.tk_journal.specs.declared.object.RunState.{RunState}
use Rattle.tk_journal.specs.declared.object.TaskRunState.{TaskRunState}
use Rattle.tk_types.specs.Behaviour.{level_of}
use Rattle.tk_journal.specs.Lists.{Has}
use Rattle.tk_journal.specs.History.{View}
use Rattle.tk_journal.specs.Stops.{asked_level}
use Rattle.tk_types.specs.declared.object.Asked.TheVariants as asks

-- its level is above all that are asked or recorded
abbrev pub IsAbove : RunState → Asked → Type 0
IsAbove run status = All (λ a. asked_level a < asked_level status) run.asked × All (λ s. level_of s < asked_level status) run.stops

-- a Start is for a run that is pending
abbrev pub IsHigher : RunState → Asked → Type 0
IsHigher run asks.Start = run.pending ≡ true
IsHigher run asks.StoppedRunFinally = IsAbove run asks.StoppedRunFinally
IsHigher run asks.CancelledRunFinally = IsAbove run asks.CancelledRunFinally
IsHigher run asks.Cancelled = IsAbove run asks.Cancelled
IsHigher run asks.TaskRunCancelled = ⊥

pub record RunAskRow (status : Asked) (run : RunState) : Type 0 where
  pub not_closed : run.closed ≡ None
  pub higher : IsHigher run status

-- only a standalone TaskRun can be asked for, and a mark is the one thing that can be asked
pub record TaskRunAskRow (task_run : TaskRunState) : Type 0 where
  pub standalone : task_run.run ≡ None
  pub not_closed : task_run.closed ≡ None
  pub not_marked : task_run.marked ≡ false

abbrev pub AskIsJustified : View → List ℕ → Asked → Type 0
AskIsJustified view name asks.TaskRunCancelled = Has (view.task_run name) TaskRunAskRow
AskIsJustified view name asks.Start = Has (view.run name) (RunAskRow asks.Start)
AskIsJustified view name asks.StoppedRunFinally = Has (view.run name) (RunAskRow asks.StoppedRunFinally)
AskIsJustified view name asks.CancelledRunFinally = Has (view.run name) (RunAskRow asks.CancelledRunFinally)
AskIsJustified view name asks.Cancelled = Has (view.run name) (RunAskRow asks.Cancelled)
