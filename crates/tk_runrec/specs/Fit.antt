-- What each run of a legal history has, so that its labels can be asked for.
use Rattle.std.specs.Prelude.{◌≡◌, ◌≢◌, ◌<◌, ◌^◌, ℕ, List, length, Some, Contains, AllPairs}
use Rattle.tk_verdict.specs.WellFormed.{IsWellFormed}
use Rattle.tk_journal.specs.declared.object.RunState.{RunState}
use Rattle.tk_journal.specs.declared.object.Scheduled.{Scheduled}
use Rattle.tk_journal.specs.Effects.{task_count}
use Rattle.tk_journal.specs.History.{View}
use Rattle.tk_journal.specs.RunRows.{facts_in}

-- each task is scheduled once
abbrev pub AreApart : List Scheduled → Type 0
AreApart scheduled = AllPairs (λ a b. a.task ≢ b.task) scheduled

pub record IsFit (view : View) (run : RunState) : Type 0 where
  pub well_formed : IsWellFormed (facts_in view run)
  pub few_tasks : task_count run.spec < 2 ^ 32
  pub once : AreApart run.scheduled
  pub parts : (part : Scheduled) → Contains run.scheduled part → (part.task < task_count run.spec) × (length part.bindings < 2 ^ 32)

abbrev pub AreFit : View → Type 0
AreFit view = (name : List ℕ) (run : RunState) → view.run name ≡ Some run → IsFit view run
