-- A tried act is a turn's, and a turn that takes the computed choice takes the first act that is justified.
use Rattle.std.proofs.Common.{◌≡◌, ℕ, List, Option, Some, None, Bool, false, refl, sym, subst}
use Rattle.tk_journal.specs.declared.act.Act.{Act}
use Rattle.tk_journal.specs.declared.act.Act.TheVariants as acts
use Rattle.tk_journal.specs.declared.entry.Actor.{Actor}
use Rattle.tk_journal.specs.declared.entry.Entry.{Entry}
use Rattle.tk_journal.specs.Choice.{MayChoose, IsChoice, HasNoChoice}
use Rattle.tk_journal.specs.Effects.{is_create, kind_of, name_of}
use Rattle.tk_journal.specs.History.{View, view_at}
use Rattle.tk_journal.specs.Legal.{IsWritable, Fits, is_admit}
use Rattle.tk_journal.specs.Rows.{IsJustified}
use Rattle.tk_store.specs.declared.turn.Turn.{Turn}
use Rattle.tk_store.specs.declared.turn.Turn.TheVariants as turns
use Rattle.tk_store.specs.Writes.{Stored, MayBeTried, version_seen}
use Rattle.tk_cache.specs.Fronts.{Shows}
use Rattle.tk_cache.specs.Views.{Seen}
use Rattle.tk_choice.specs.Took.{entry_of, MayTry, IsAnswered, Took, TookFirst}

-- trying

not_admit : (act : Act) → MayChoose act → is_admit act ≡ false
not_admit (acts.Admit name spec pending asked root) mine = absurd mine
not_admit act mine = refl

fits_any : (history : List Entry) (e : Entry) (act : Act) → MayChoose act → Fits history e act
fits_any history e (acts.Admit name spec pending asked root) mine = absurd mine
fits_any history e (acts.Ask name status) mine = absurd mine
fits_any history e act mine = tt

-- what a cache's view justifies may be tried at its fronts
pub may_be_tried : (seen : Seen) (history : List Entry) (actor : Actor) (moment : ℕ) (act : Act) → Shows seen history → MayTry seen.view actor moment act → MayBeTried history (entry_of actor seen.fronts moment act)
may_be_tried seen history actor moment act shows may = record {
  no_admission = not_admit act may.mine;
  fits = fits_any history (entry_of actor seen.fronts moment act) act may.mine;
  within = shows.within;
  justified = subst (λ (view : View). IsJustified view actor moment act) shows.same may.justified;
}

-- the version that a cache shows is the one at its fronts
pub version_is : (seen : Seen) (history : List Entry) (actor : Actor) (moment : ℕ) (act : Act) → Shows seen history → seen.versions (kind_of act) (name_of act) ≡ version_seen history (entry_of actor seen.fronts moment act)
version_is seen history actor moment act shows = shows.versions_same (kind_of act) (name_of act)

pub goes_through : (e : Entry) (history : List Entry) (create : Bool) → is_create e.act ≡ create → IsWritable create (kind_of e.act) (name_of e.act) e.fronts history → IsWritable (is_create e.act) (kind_of e.act) (name_of e.act) e.fronts history
goes_through e history create is writable = subst (λ (b : Bool). IsWritable b (kind_of e.act) (name_of e.act) e.fronts history) (sym is) writable

-- a choice may be tried
pub may_try : (view : View) (actor : Actor) (moment : ℕ) (act : Act) → IsChoice view actor moment act → MayTry view actor moment act
may_try view actor moment act chosen = record { mine = chosen.mine; justified = chosen.justified }

-- turns

-- the answer to a tried act is a turn's
pub answered : (act : Act) (entry : Act → Entry) (before : Stored) (turn : Turn) (after : Stored) → IsAnswered before (entry act) turn after → Took (Some act) entry before turn after
answered act entry before turns.Idle after answer = absurd answer
answered act entry before (turns.Wrote version) after answer = record { it = act; is = refl; has = answer }
answered act entry before (turns.Exists holder version) after answer = record { it = act; is = refl; has = answer }
answered act entry before (turns.Conflict found) after answer = record { it = act; is = refl; has = answer }
answered act entry before turns.Memory after answer = record { it = act; is = refl; has = answer }

-- where what is computed is the first act that is justified, and None means that there is none, the turn takes the first
pub took_first : (seen : Seen) (actor : Actor) (moment : ℕ) (choice : Option Act) (before : Stored) (turn : Turn) (after : Stored)
    → ((act : Act) → choice ≡ Some act → IsChoice seen.view actor moment act)
    → (choice ≡ None → HasNoChoice seen.view actor moment)
    → Took choice (entry_of actor seen.fronts moment) before turn after
    → TookFirst seen actor moment before turn after
took_first seen actor moment choice before turns.Idle after first none took = (none took.0, took.1)
took_first seen actor moment choice before (turns.Wrote version) after first none took = (took.it, first took.it took.is, took.has)
took_first seen actor moment choice before (turns.Exists holder version) after first none took = (took.it, first took.it took.is, took.has)
took_first seen actor moment choice before (turns.Conflict found) after first none took = (took.it, first took.it took.is, took.has)
took_first seen actor moment choice before turns.Memory after first none took = (took.it, first took.it took.is, took.has)

-- what holds of the view at a cache's fronts holds of what it shows

pub first_seen : (choice : View → Option Act) (actor : Actor) (moment : ℕ) (seen : Seen) (history : List Entry) → Shows seen history
    → ((act : Act) → choice (view_at seen.fronts history) ≡ Some act → IsChoice (view_at seen.fronts history) actor moment act)
    → (act : Act) → choice seen.view ≡ Some act → IsChoice seen.view actor moment act
first_seen choice actor moment seen history shows first =
    subst (λ (view : View). (act : Act) → choice view ≡ Some act → IsChoice view actor moment act) (sym shows.same) first

pub none_seen : (choice : View → Option Act) (actor : Actor) (moment : ℕ) (seen : Seen) (history : List Entry) → Shows seen history
    → (choice (view_at seen.fronts history) ≡ None → HasNoChoice (view_at seen.fronts history) actor moment)
    → choice seen.view ≡ None → HasNoChoice seen.view actor moment
none_seen choice actor moment seen history shows none =
    subst (λ (view : View). choice view ≡ None → HasNoChoice view actor moment) (sym shows.same) none
