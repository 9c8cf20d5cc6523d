-- What an entrypoint's program does, and its status.
use Rattle.std.specs.Prelude.{◌≡◌, ◌⊎◌, ℕ, Bool, true, false, List, [], ◌∷◌, codes, Option}
use Rattle.tk_pod.specs.Exits.{passes}
use Rattle.tk_types.specs.declared.value.Pair.{Pair}
use Rattle.tk_edge.specs.declared.miss.Miss.{Miss}
use Rattle.tk_edge.specs.declared.miss.Miss.TheVariants as misses
use Rattle.tk_edge.specs.declared.order.Order.{Order}
use Rattle.tk_edge.specs.declared.event.Event.{Event}
use Rattle.tk_edge.specs.declared.event.Event.TheVariants as events
use Rattle.tk_edge.specs.Armed.{exit_text}
use Rattle.tk_edge.specs.Causes.{raised}
use Rattle.tk_edge.specs.Files.{Files, MayChange, WhereTold, IsOwnFile, broken}
use Rattle.tk_edge.specs.History.{Has, IsNew, order_of}
use Rattle.tk_edge.specs.InOrder.{IsSettled}
use Rattle.tk_edge.specs.Markers.{Stands}
use Rattle.tk_enter.specs.declared.words.EntryWords.{EntryWords}
use Rattle.tk_enter.specs.declared.entering.Ended.{Ended}
use Rattle.tk_enter.specs.declared.entering.Ended.TheVariants as ways

-- the order that it runs: its command, in its own environment and folder
abbrev pub order_in : EntryWords → List Pair → Order
order_in w env = record { pod = []; step = 0; argv = w.argv; env = env; dir = codes "." }

-- the command was started, and that was put
abbrev pub began : EntryWords → Order → ℕ → List Event → List Event
began w order child told = events.Put w.began [] true ∷ events.Started child order ∷ told

-- the file that is left behind an exit
abbrev pub left : EntryWords → Bool → List ℕ
left w true = w.post
left w false = broken w.post

-- the command ended, its exit was put, and then the file
abbrev pub ended : EntryWords → Order → ℕ → ℕ → List Event → List Event
ended w order child exit told =
    events.Put (left w (passes w.keep_going exit)) [] true ∷ events.Put w.exit (exit_text exit) true ∷ events.Exited child exit ∷ began w order child told

-- the file with `.err` was left, and nothing else was done
abbrev pub refused : EntryWords → List Event → List Event
refused w told = events.Put (broken w.post) [] true ∷ told

-- what a host tells at a moment
pub record Moment : Type 0 where
  pub told : List Event
  pub files : Option Files
  pub killed : ℕ → Bool
  pub faults : ℕ

abbrev pub moment : List Event → Option Files → (ℕ → Bool) → ℕ → Moment
moment told files killed faults = record { told = told; files = files; killed = killed; faults = faults }

-- a file that the program may change: those that its words name but the wait file and the one that cancels it, and its command's own
abbrev pub IsItsFile : EntryWords → List ℕ → Type 0
IsItsFile w path = (path ≡ w.began) ⊎ (path ≡ w.exit) ⊎ (path ≡ w.post) ⊎ (path ≡ broken w.post) ⊎ IsOwnFile [] path

-- a file stood at a moment behind the first, before which no file but its own changed
pub record Stood (w : EntryWords) (path : List ℕ) (first : Moment) : Type 0 where
  pub files : Option Files
  pub meanwhile : MayChange (IsItsFile w) first.files files
  pub stood : WhereTold files (Stands path)

-- the command ended with an exit, which passes or doesn't
pub record Ends (w : EntryWords) (order : Order) (passed : Bool) (first last : Moment) : Type 0 where
  pub child : ℕ
  pub fresh : IsNew child first.told
  pub exit : ℕ
  pub is : passes w.keep_going exit ≡ passed
  pub told : last.told ≡ ended w order child exit first.told

-- the wait file stood with `.err`, so nothing was started
pub record IsRefused (w : EntryWords) (first last : Moment) : Type 0 where
  pub told : last.told ≡ refused w first.told
  pub because : Stood w (broken w.wait) first

-- the command was started, and then killed
pub record Kills (w : EntryWords) (order : Order) (first last : Moment) : Type 0 where
  pub child : ℕ
  pub fresh : IsNew child first.told
  pub killed : last.killed child ≡ true
  pub told : last.told ≡ refused w (began w order child first.told)

-- The file that cancels it stood, or its parent was found gone, before any file but its own changed: the command was killed
-- if it was started, and the file with `.err` was left.
pub record IsCancelled (w : EntryWords) (order : Order) (gone : Bool) (first last : Moment) : Type 0 where
  pub files : Option Files
  pub meanwhile : MayChange (IsItsFile w) first.files files
  pub because : WhereTold files (Stands w.cancel) ⊎ (gone ≡ true)
  pub how : (last.told ≡ refused w first.told) ⊎ Kills w order first last

-- the count rose: it stands still at its end, and counts as risen then
abbrev pub Rises : ℕ → ℕ → Type 0
Rises before now = (now ≡ raised before) ⊎ (now ≡ raised (raised before))

-- how the program ended, where its words are of their form; `gone` says whether its parent was found gone
abbrev pub EndsAs : EntryWords → Order → Bool → Moment → Moment → Ended → Type 0
EndsAs w order gone first last ways.Passed = Ends w order true first last × (last.faults ≡ first.faults)
EndsAs w order gone first last ways.Broke = (Ends w order false first last ⊎ IsRefused w first last) × (last.faults ≡ first.faults)
EndsAs w order gone first last ways.Fault = Rises first.faults last.faults
EndsAs w order gone first last ways.Cancelled = IsCancelled w order gone first last × (last.faults ≡ first.faults)
EndsAs w order gone first last ways.Memory = Unit {0}

-- the same, and no file but its own changed
pub record Finishes (w : EntryWords) (order : Order) (gone : Bool) (first last : Moment) (end : Ended) : Type 0 where
  pub how : EndsAs w order gone first last end
  pub changed : MayChange (IsItsFile w) first.files last.files

-- no command runs on: each child that was started since has its exit or was killed
abbrev pub AreSettled : List Event → List Event → (ℕ → Bool) → Type 0
AreSettled told now killed = (child : ℕ) → IsNew child told → Has (order_of child now) (λ _. Unit {0}) → IsSettled killed child now

-- the status of each
abbrev pub status : Ended → ℕ
status ways.Passed = 0
status ways.Broke = 1
status ways.Fault = 3
status ways.Cancelled = 4
status ways.Memory = 6

-- how it ends behind a call that gave no answer
abbrev pub ended_by : Miss → Ended
ended_by misses.Failed = ways.Fault
ended_by misses.Memory = ways.Memory
