-- Which entries of a controller are its workers' choices (Tekton, Pipelines, How PipelineRuns are reconciled).
use Rattle.std.specs.Prelude.{◌≡◌, ◌⊎◌, ℕ, List, [], ◌∷◌, true}
use Rattle.tk_journal.specs.declared.entry.Actor.{Actor}
use Rattle.tk_journal.specs.declared.entry.Actor.TheVariants as actors
use Rattle.tk_journal.specs.declared.entry.Entry.{Entry}
use Rattle.tk_journal.specs.Choice.{HasNoChoice, IsChoice}
use Rattle.tk_journal.specs.History.{View, view_at}
use Rattle.tk_rounds.specs.Members.{of_controller}

-- the run worker of a controller, or where that has nothing to do by what it sees, its task worker
abbrev pub IsWorkerOf : ℕ → View → Actor → ℕ → Type 0
IsWorkerOf number view actor moment =
    (actor ≡ actors.Runs number) ⊎ ((actor ≡ actors.Tasks number) × HasNoChoice view (actors.Runs number) moment)

-- such a worker wrote the first entry that was justified by what it had seen
pub record IsChosen (number : ℕ) (older : List Entry) (e : Entry) : Type 0 where
  pub choice : IsChoice (view_at e.fronts older) e.actor e.moment e.act
  pub worker : IsWorkerOf number (view_at e.fronts older) e.actor e.moment

-- so is each entry of the controller
abbrev pub AreChosen : ℕ → List Entry → Type 0
AreChosen number [] = Unit {0}
AreChosen number (e ∷ older) = (of_controller number e ≡ true → IsChosen number older e) × AreChosen number older
