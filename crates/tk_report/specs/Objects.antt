-- The runs and the standalone TaskRuns of a history, and what a report asks of them.
use Rattle.std.specs.Prelude.{◌≡◌, ◌<◌, ◌≤◌, ◌^◌, ℕ, List, [], ◌∷◌, ◌++◌, length, Option, Some, All}
use Rattle.std.specs.Option.{ForSome}
use Rattle.tk_types.specs.declared.run.Outcome.{Outcome}
use Rattle.tk_types.specs.declared.scenario.Kind.{Kind}
use Rattle.tk_time.specs.Moment.{last_moment}
use Rattle.tk_verdict.specs.WellFormed.{IsWellFormed}
use Rattle.tk_journal.specs.declared.act.Act.{Act}
use Rattle.tk_journal.specs.declared.act.Act.TheVariants as acts
use Rattle.tk_journal.specs.declared.entry.Entry.{Entry}
use Rattle.tk_journal.specs.declared.entry.Fronts.{Fronts}
use Rattle.tk_journal.specs.declared.object.RunState.{RunState}
use Rattle.tk_journal.specs.declared.object.Scheduled.{Scheduled}
use Rattle.tk_journal.specs.Effects.{kind_of_admission}
use Rattle.tk_journal.specs.History.{View, facts_of, outcome_of, view_at}
use Rattle.tk_journal.specs.Names.{child_name_of}

-- what an entry admits: an object of this kind and name
abbrev pub admitted_by : Act → List (Kind × List ℕ)
admitted_by (acts.Admit name spec pending asked root) = (kind_of_admission spec, name) ∷ []
admitted_by _ = []

-- all that is admitted, in order
abbrev pub admitted : List Entry → List (Kind × List ℕ)
admitted [] = []
admitted (e ∷ older) = admitted older ++ admitted_by e.act

-- what a report shows of a history: its runs and TaskRuns at the end, and no pods
abbrev pub end_fronts : List Entry → Fronts
end_fronts history = record { runs = length history; task_runs = length history; pods = 0 }

abbrev pub end_view : List Entry → View
end_view history = view_at (end_fronts history) history

-- each moment has a text
abbrev pub HasMoments : List Entry → Type 0
HasMoments history = All (λ (e : Entry). e.moment ≤ last_moment) history

-- the indexes of the run's children are numbers of 32 bits
abbrev pub HasFewChildren : RunState → Type 0
HasFewChildren run = All (λ (part : Scheduled). length part.bindings < 2 ^ 32) run.scheduled

abbrev pub HaveFewChildren : View → Type 0
HaveFewChildren view = (name : List ℕ) (run : RunState) → view.run name ≡ Some run → HasFewChildren run

-- how a run's child ended, as it is seen
abbrev pub outcome_at : View → RunState → ℕ → ℕ → Option Outcome
outcome_at view run task index = outcome_of (view.task_run (child_name_of run.spec task index))

-- what JSON asks of a run: its start is on a clock, and the facts of it are well formed
pub record IsPrintable (view : View) (run : RunState) : Type 0 where
  pub few : HasFewChildren run
  pub timely : ForSome run.start (λ moment. moment ≤ last_moment)
  pub formed : IsWellFormed (facts_of view.task_run run)

abbrev pub ArePrintable : View → Type 0
ArePrintable view = (name : List ℕ) (run : RunState) → view.run name ≡ Some run → IsPrintable view run
