-- An entrypoint between its turns: it waits, or its command runs.
use Rattle.std.specs.Prelude.{◌≡◌, ◌⊎◌, ℕ, Bool, false, List, [], ◌∷◌, Option, Some, None}
use Rattle.tk_edge.specs.declared.order.Order.{Order}
use Rattle.tk_edge.specs.declared.event.Event.{Event}
use Rattle.tk_edge.specs.declared.event.Event.TheVariants as events
use Rattle.tk_edge.specs.Armed.{is_over}
use Rattle.tk_edge.specs.Calls.{MarksKilled}
use Rattle.tk_edge.specs.Files.{MayChange}
use Rattle.tk_edge.specs.History.{IsNew}
use Rattle.tk_entry.specs.Entry.{Entry}
use Rattle.tk_enter.specs.declared.entering.Ended.{Ended}
use Rattle.tk_enter.specs.declared.words.EntryWords.{EntryWords}
use Rattle.tk_enter.specs.Enter.{Moment, IsItsFile, began, Finishes}

-- it is the entrypoint of these words, and no answer of it is for good
pub record IsOf (w : EntryWords) (order : Order) (entry : Entry) : Type 0 where
  pub own_order : entry.armed.order ≡ order
  pub no_pod : order.pod ≡ []
  pub waits : entry.armed.wait ≡ w.wait
  pub posts : entry.armed.post ≡ w.post
  pub keeps : entry.armed.keep_going ≡ w.keep_going
  pub notes : entry.armed.note ≡ Some w.exit
  pub no_exit : entry.armed.exit ≡ None
  pub not_over : is_over entry.armed.last ≡ false
  pub not_failed : entry.failed ≡ false

pub record HasWaited (entry : Entry) (told now : List Event) : Type 0 where
  pub no_child : entry.armed.child ≡ None
  pub nothing : now ≡ told

pub record HasBegun (w : EntryWords) (order : Order) (entry : Entry) (told now : List Event) : Type 0 where
  pub child : ℕ
  pub its_child : entry.armed.child ≡ Some child
  pub fresh : IsNew child told
  pub is : now ≡ began w order child told

-- between two turns
pub record IsGoing (w : EntryWords) (order : Order) (entry : Entry) (first now : Moment) : Type 0 where
  pub its : IsOf w order entry
  pub how : HasWaited entry first.told now.told ⊎ HasBegun w order entry first.told now.told
  pub changed : MayChange (IsItsFile w) first.files now.files
  pub killed : now.killed ≡ first.killed
  pub count : now.faults ≡ first.faults

-- its command was started in this turn, and isn't told as begun yet
pub record IsBeginning (w : EntryWords) (order : Order) (entry : Entry) (first now : Moment) : Type 0 where
  pub its : IsOf w order entry
  pub child : ℕ
  pub its_child : entry.armed.child ≡ Some child
  pub fresh : IsNew child first.told
  pub told : now.told ≡ events.Started child order ∷ first.told
  pub changed : MayChange (IsItsFile w) first.files now.files
  pub killed : now.killed ≡ first.killed
  pub count : now.faults ≡ first.faults

-- what a turn gives: it goes on, or the program ends
abbrev pub GivesTurn : EntryWords → Order → Bool → Entry → Moment → Moment → Option Ended → Type 0
GivesTurn w order gone entry first now None = IsGoing w order entry first now
GivesTurn w order gone entry first now (Some end) = Finishes w order gone first now end

-- a kill of its command, if it has one
abbrev pub KillsChild : Option ℕ → List Event → (ℕ → Bool) → (ℕ → Bool) → Type 0
KillsChild None told killed now = now ≡ killed
KillsChild (Some child) told killed now = MarksKilled child told killed now
