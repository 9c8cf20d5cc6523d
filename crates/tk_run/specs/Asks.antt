-- What the words of a call ask of its runs, and the Ask entries of its journal (Tekton, PipelineRuns, Cancelling a PipelineRun).
use Rattle.std.specs.Prelude.{◌≡◌, ◌≢◌, ◌<◌, ◌≤◌, ◌+◌, ◌⊎◌, ◌^◌, ◌-◌, ℕ, min, length, List, [], ◌∷◌, Bool, true, false, Option, Some, AllPairs, if◌then◌else◌, slice_get}
use Rattle.std.specs.List.{Contains}
use Rattle.tk_edge.specs.Readings.{last_moment}
use Rattle.tk_journal.specs.declared.act.Act.{Act}
use Rattle.tk_journal.specs.declared.act.Act.TheVariants as acts
use Rattle.tk_journal.specs.declared.entry.Actor.{Actor}
use Rattle.tk_journal.specs.declared.entry.Actor.TheVariants as actors
use Rattle.tk_journal.specs.declared.entry.Entry.{Entry}
use Rattle.tk_user.specs.declared.answer.AskAnswer.{AskAnswer}
use Rattle.tk_user.specs.Ask.{ask_entry, refusal}
use Rattle.tk_rounds.specs.Follows.{IsToldWhile}
use Rattle.tk_rounds.specs.Timed.{AreBetween, IsSublist, moments}
use Rattle.tk_run.specs.declared.asks.AskWord.{AskWord}

abbrev pub by_user : Actor → Bool
by_user actors.User = true
by_user _ = false

abbrev pub of_user : Entry → Bool
of_user e = by_user e.actor

-- an entry of the user, whose moment a clock may give
abbrev pub IsOfUser : Entry → Type 0
IsOfUser e = (e.actor ≡ actors.User) × (e.moment ≤ last_moment)

-- the Ask entries of a journal

abbrev pub is_ask : Act → Bool
is_ask (acts.Ask name status) = true
is_ask _ = false

abbrev pub asks_of : List Entry → List Entry
asks_of [] = []
asks_of (e ∷ older) = if is_ask e.act then e ∷ asks_of older else asks_of older

-- the entry asks what the word says, and not before its time: so much later than `since`
pub record IsAskOf (since : ℕ) (e : Entry) (word : AskWord) : Type 0 where
  pub act : e.act ≡ acts.Ask word.run word.status
  pub late : since + word.delay ≤ e.moment

-- there is such a word at the place
pub record IsAskAt (since : ℕ) (words : List AskWord) (place : ℕ) (e : Entry) : Type 0 where
  pub word : AskWord
  pub at : slice_get words place ≡ Some word
  pub asks : IsAskOf since e word

-- each entry is of the word at its place
abbrev pub AreAsksAt : ℕ → List AskWord → List ℕ → List Entry → Type 0
AreAsksAt since words [] [] = Unit {0}
AreAsksAt since words (place ∷ places) (e ∷ es) = IsAskAt since words place e × AreAsksAt since words places es
AreAsksAt since words [] (e ∷ es) = ⊥
AreAsksAt since words (place ∷ places) [] = ⊥

-- each Ask entry is of a word of its own, and not before its time
pub record AreOfWords (since : ℕ) (words : List AskWord) (history : List Entry) : Type 0 where
  pub places : List ℕ
  pub apart : AllPairs (λ a b. a ≢ b) places
  pub at : AreAsksAt since words places (asks_of history)

-- the ask is refused at the end of the journal: there is no such run, it is closed, or the status isn't above what was asked
pub record IsRefusedAtEnd (history : List Entry) (word : AskWord) : Type 0 where
  pub answer : AskAnswer
  pub due : refusal history word.run word.status ≡ Some answer

-- so it is, and each word that was tried has its entry or is refused at the end
pub record AreTried (since : ℕ) (words : List AskWord) (tried : List Bool) (history : List Entry) : Type 0 where
  pub asked : AreOfWords since words history
  pub only : (place : ℕ) → Contains asked.places place → slice_get tried place ≡ Some true
  pub each : (place : ℕ) (word : AskWord) → slice_get words place ≡ Some word → slice_get tried place ≡ Some true
      → Contains asked.places place ⊎ IsRefusedAtEnd history word

-- so each word is
pub record AreAllTried (since : ℕ) (words : List AskWord) (history : List Entry) : Type 0 where
  pub asked : AreOfWords since words history
  pub each : (place : ℕ) (word : AskWord) → slice_get words place ≡ Some word → Contains asked.places place ⊎ IsRefusedAtEnd history word

abbrev pub IsNoneTried : List Bool → Type 0
IsNoneTried tried = (place : ℕ) → slice_get tried place ≡ Some true → ⊥

abbrev pub IsEachTried : List Bool → Type 0
IsEachTried tried = (place : ℕ) → place < length tried → slice_get tried place ≡ Some true

-- one ask at a moment: it is refused, or its entry stands at the end
abbrev pub Asks : AskWord → ℕ → List Entry → List Entry → Type 0
Asks word moment history after =
    (IsRefusedAtEnd history word × (after ≡ history)) ⊎ (after ≡ ask_entry history word.run word.status moment ∷ history)

-- a word's time has come, and it was asked; or it hasn't
abbrev pub TriesWord : Bool → ℕ → AskWord → ℕ → List Entry → List Entry → Type 0
TriesWord true start word moment history after = (start + word.delay ≤ moment) × Asks word moment history after
TriesWord false start word moment history after = after ≡ history

-- for how many asks admission makes room
abbrev pub asks_count : List AskWord → ℕ
asks_count words = min (length words) (2 ^ 32 - 1)

-- the user's clock

pub record ClockTold : Type 0 where
  pub readings : Option (List ℕ)
  pub last : ℕ

abbrev pub clock_told : {K : Type 0} → (K → Option (List ℕ)) → (K → ℕ) → K → ClockTold
clock_told readings last clock = record { readings = readings clock; last = last clock }

-- Each entry of the user has a reading of its own as its moment, of those that the clock gave since a moment, in the same order.
-- Where the clock tells its readings these are what it told.
pub record UserFollows (since now : ClockTold) (history : List Entry) : Type 0 where
  pub readings : List ℕ
  pub took : IsToldWhile since.readings readings now.readings
  pub between : AreBetween since.last readings now.last
  pub own : IsSublist (moments of_user history) readings
