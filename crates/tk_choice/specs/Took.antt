-- What a worker's turn comes to, by its choice.
use Rattle.std.specs.Prelude.{◌≡◌, ℕ, Option, None, true, false}
use Rattle.tk_journal.specs.declared.act.Act.{Act}
use Rattle.tk_journal.specs.declared.entry.Actor.{Actor}
use Rattle.tk_journal.specs.declared.entry.Entry.{Entry}
use Rattle.tk_journal.specs.declared.entry.Fronts.{Fronts}
use Rattle.tk_journal.specs.Choice.{MayChoose, IsChoice, HasNoChoice}
use Rattle.tk_journal.specs.Effects.{is_create, kind_of, name_of}
use Rattle.tk_journal.specs.History.{View}
use Rattle.tk_journal.specs.Legal.{IsWritable}
use Rattle.tk_journal.specs.Lists.{Has}
use Rattle.tk_journal.specs.Rows.{IsJustified}
use Rattle.tk_store.specs.declared.turn.Turn.{Turn}
use Rattle.tk_store.specs.declared.turn.Turn.TheVariants as turns
use Rattle.tk_store.specs.Writes.{Stored, IsAdded, IsTaken, HasMoved}
use Rattle.tk_cache.specs.Views.{Seen}

-- the entry of an actor that acts at these fronts and this moment
abbrev pub entry_of : Actor → Fronts → ℕ → Act → Entry
entry_of actor fronts moment act = record { actor = actor; fronts = fronts; moment = moment; act = act }

-- an act of a worker or kubelet that is justified by what the actor sees
pub record MayTry (view : View) (actor : Actor) (moment : ℕ) (act : Act) : Type 0 where
  pub mine : MayChoose act
  pub justified : IsJustified view actor moment act

-- a create finds its name free, an update its object as it was seen
abbrev pub GoesThrough : Stored → Entry → Type 0
GoesThrough before e = IsWritable (is_create e.act) (kind_of e.act) (name_of e.act) e.fronts before.history

-- the store's answer to an entry, as a turn tells it
abbrev pub IsAnswered : Stored → Entry → Turn → Stored → Type 0
IsAnswered before e (turns.Wrote version) after = GoesThrough before e × IsAdded before e version after
IsAnswered before e (turns.Exists holder version) after = (is_create e.act ≡ true) × IsTaken before e holder version × (after ≡ before)
IsAnswered before e (turns.Conflict found) after = (is_create e.act ≡ false) × HasMoved before e found × (after ≡ before)
IsAnswered before e turns.Idle after = ⊥
IsAnswered before e turns.Memory after = GoesThrough before e × (before.spare ≡ 0) × (after ≡ before)

-- Idle exactly where there is no choice, else the store's answer to it
abbrev pub Took : Option Act → (Act → Entry) → Stored → Turn → Stored → Type 0
Took choice entry before turns.Idle after = (choice ≡ None) × (after ≡ before)
Took choice entry before turn after = Has choice (λ act. IsAnswered before (entry act) turn after)

-- Idle exactly where nothing is justified for the actor by what it sees at this moment, else the store's answer to the first act that is
abbrev pub TookFirst : Seen → Actor → ℕ → Stored → Turn → Stored → Type 0
TookFirst seen actor moment before turns.Idle after = HasNoChoice seen.view actor moment × (after ≡ before)
TookFirst seen actor moment before turn after = (act : Act) × IsChoice seen.view actor moment act × IsAnswered before (entry_of actor seen.fronts moment act) turn after
