-- What a run worker finds at what it sees is the first of all that it may do there.
use Rattle.std.specs.Prelude.{◌≡◌, ℕ, List, Some, None}
use Rattle.tk_journal.specs.declared.act.Act.{Act}
use Rattle.tk_journal.specs.declared.entry.Actor.TheVariants as actors
use Rattle.tk_journal.specs.declared.entry.Entry.{Entry}
use Rattle.tk_journal.specs.declared.entry.Fronts.{Fronts}
use Rattle.tk_journal.specs.Choice.{IsChoice, HasNoChoice}
use Rattle.tk_journal.specs.History.{view_at}
use Rattle.tk_journal.specs.Legal.{IsLegal}
use Rattle.tk_runrec.specs.Choice.{choice}
use Rattle.tk_runrec.specs.Fit.{AreFit}

-- what is found is justified, and nothing that is justified for the worker comes before
abbrev pub ChoiceIsFirst : Type 0
ChoiceIsFirst =
    (history : List Entry) → IsLegal history → (fronts : Fronts) (number moment : ℕ) (act : Act)
    → choice (view_at fronts history) moment ≡ Some act → IsChoice (view_at fronts history) (actors.Runs number) moment act

-- where nothing is found, nothing is justified for the worker
abbrev pub NoneIsLeft : Type 0
NoneIsLeft =
    (history : List Entry) → IsLegal history → (fronts : Fronts) (number moment : ℕ) → choice (view_at fronts history) moment ≡ None
    → HasNoChoice (view_at fronts history) (actors.Runs number) moment

-- what is seen of a legal history is fit to choose from
abbrev pub SeenIsFit : Type 0
SeenIsFit = (history : List Entry) → IsLegal history → (fronts : Fronts) → AreFit (view_at fronts history)
