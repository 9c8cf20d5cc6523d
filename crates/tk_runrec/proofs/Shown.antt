-- What a worker finds at what its cache shows of a legal history.
use Rattle.std.proofs.Common.{◌≡◌, ℕ, List, Option, Some, None, sym, subst}
use Rattle.tk_journal.specs.declared.act.Act.{Act}
use Rattle.tk_journal.specs.declared.entry.Actor.TheVariants as actors
use Rattle.tk_journal.specs.declared.entry.Entry.{Entry}
use Rattle.tk_journal.specs.Choice.{IsChoice, HasNoChoice}
use Rattle.tk_journal.specs.History.{View}
use Rattle.tk_journal.specs.Legal.{IsLegal}
use Rattle.tk_store.specs.declared.turn.Turn.{Turn}
use Rattle.tk_store.specs.Writes.{Stored}
use Rattle.tk_cache.specs.Fronts.{Shows}
use Rattle.tk_cache.specs.Views.{Seen}
use Rattle.tk_choice.specs.Took.{MayTry, IsAnswered, Took, TookFirst, entry_of}
use Rattle.tk_choice.proofs.Took.{answered, may_try, took_first, first_seen, none_seen}
use Rattle.tk_runrec.specs.Choice.{choice}
use Rattle.tk_runrec.specs.Fit.{AreFit}
use Rattle.tk_runrec.proofs.Chosen.{choice_is_first, none_is_left}
use Rattle.tk_runrec.proofs.Fit.{fit_at}

module _ (seen : Seen) (history : List Entry) (legal : IsLegal history) (shows : Shows seen history) where
  -- its runs are fit
  pub are_fit : AreFit seen.view
  are_fit = subst AreFit (sym shows.same) (fit_at seen.fronts history legal)

  module _ (number moment : ℕ) where
    -- what it finds is the first of all that it may do
    pub is_first : (act : Act) → choice seen.view moment ≡ Some act → IsChoice seen.view (actors.Runs number) moment act
    is_first = first_seen (λ (view : View). choice view moment) (actors.Runs number) moment seen history shows (choice_is_first history legal seen.fronts number moment)

    -- where it finds nothing, there is nothing
    pub none_left : choice seen.view moment ≡ None → HasNoChoice seen.view (actors.Runs number) moment
    none_left = none_seen (λ (view : View). choice view moment) (actors.Runs number) moment seen history shows (none_is_left history legal seen.fronts number moment)

    -- it may be tried
    pub may_be_tried : (act : Act) → choice seen.view moment ≡ Some act → MayTry seen.view (actors.Runs number) moment act
    may_be_tried act found = may_try seen.view (actors.Runs number) moment act (is_first act found)

    -- the answer to it is a turn's
    pub takes : (before : Stored) (turn : Turn) (after : Stored) (act : Act) → choice seen.view moment ≡ Some act → IsAnswered before (entry_of (actors.Runs number) seen.fronts moment act) turn after
        → Took (choice seen.view moment) (entry_of (actors.Runs number) seen.fronts moment) before turn after
    takes before turn after act found answer =
        subst (λ (chosen : Option Act). Took chosen (entry_of (actors.Runs number) seen.fronts moment) before turn after) (sym found) (answered act (entry_of (actors.Runs number) seen.fronts moment) before turn after answer)

    -- a turn that takes it takes the first
    pub takes_first : (before : Stored) (turn : Turn) (after : Stored) → Took (choice seen.view moment) (entry_of (actors.Runs number) seen.fronts moment) before turn after → TookFirst seen (actors.Runs number) moment before turn after
    takes_first before turn after = took_first seen (actors.Runs number) moment (choice seen.view moment) before turn after is_first none_left
