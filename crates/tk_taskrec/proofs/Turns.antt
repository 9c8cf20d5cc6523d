-- A turn's choice by what the worker's cache shows.
use Rattle.std.proofs.Common.{◌≡◌, ℕ, List, Option, Some, None, sym, subst}
use Rattle.tk_journal.specs.declared.act.Act.{Act}
use Rattle.tk_journal.specs.declared.entry.Actor.TheVariants as actors
use Rattle.tk_journal.specs.declared.entry.Entry.{Entry}
use Rattle.tk_journal.specs.Choice.{IsChoice, HasNoChoice}
use Rattle.tk_journal.specs.Legal.{IsLegal}
use Rattle.tk_store.specs.declared.turn.Turn.{Turn}
use Rattle.tk_store.specs.Writes.{Stored}
use Rattle.tk_cache.specs.Fronts.{Shows}
use Rattle.tk_cache.specs.Views.{Seen}
use Rattle.tk_choice.specs.Took.{IsAnswered, Took, TookFirst, MayTry, entry_of}
use Rattle.tk_choice.proofs.Took.{answered, first_seen, none_seen, took_first, may_try}
use Rattle.tk_taskrec.specs.Choice.{choice}
use Rattle.tk_taskrec.specs.Fit.{AreFit}
use Rattle.tk_taskrec.proofs.Chosen.{choice_is_first, none_is_left}
use Rattle.tk_taskrec.proofs.Fit.{fit_at}

-- what a cache shows of a legal history is fit
pub fit_seen : (seen : Seen) (history : List Entry) → IsLegal history → Shows seen history → AreFit seen.view
fit_seen seen history legal shows = subst AreFit (sym shows.same) (fit_at seen.fronts history legal)

first_at : (seen : Seen) (history : List Entry) (number moment : ℕ) → IsLegal history → Shows seen history → (act : Act) → choice seen.view ≡ Some act → IsChoice seen.view (actors.Tasks number) moment act
first_at seen history number moment legal shows =
    first_seen choice (actors.Tasks number) moment seen history shows (choice_is_first history legal seen.fronts number moment)

none_at : (seen : Seen) (history : List Entry) (number moment : ℕ) → IsLegal history → Shows seen history → choice seen.view ≡ None → HasNoChoice seen.view (actors.Tasks number) moment
none_at seen history number moment legal shows =
    none_seen choice (actors.Tasks number) moment seen history shows (none_is_left history legal seen.fronts number moment)

-- what is chosen may be tried
pub choice_may : (seen : Seen) (history : List Entry) (number moment : ℕ) (act : Act) → IsLegal history → Shows seen history → choice seen.view ≡ Some act → MayTry seen.view (actors.Tasks number) moment act
choice_may seen history number moment act legal shows is =
    may_try seen.view (actors.Tasks number) moment act (first_at seen history number moment legal shows act is)

-- a turn that takes the choice takes the first act that is justified
pub took_choice : (seen : Seen) (number moment : ℕ) (before : Stored) (turn : Turn) (after : Stored) → IsLegal before.history → Shows seen before.history
    → Took (choice seen.view) (entry_of (actors.Tasks number) seen.fronts moment) before turn after
    → TookFirst seen (actors.Tasks number) moment before turn after
took_choice seen number moment before turn after legal shows took =
    took_first seen (actors.Tasks number) moment (choice seen.view) before turn after (first_at seen before.history number moment legal shows) (none_at seen before.history number moment legal shows) took

-- the answer to the chosen act is the turn's
pub took_act : (seen : Seen) (number moment : ℕ) (act : Act) (before : Stored) (turn : Turn) (after : Stored) → choice seen.view ≡ Some act
    → IsAnswered before (entry_of (actors.Tasks number) seen.fronts moment act) turn after
    → Took (choice seen.view) (entry_of (actors.Tasks number) seen.fronts moment) before turn after
took_act seen number moment act before turn after is answer =
    let entry = entry_of (actors.Tasks number) seen.fronts moment in
    subst (λ (o : Option Act). Took o entry before turn after) (sym is) (answered act entry before turn after answer)
