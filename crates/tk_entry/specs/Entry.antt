-- One turn of an entrypoint.
use Rattle.std.specs.Prelude.{◌≡◌, ◌⊎◌, ℕ, Bool, true, false, List, Option, Some, None}
use Rattle.tk_edge.specs.declared.armed.Armed.{Armed}
use Rattle.tk_edge.specs.declared.event.Event.{Event}
use Rattle.tk_edge.specs.declared.order.Order.{Order}
use Rattle.tk_edge.specs.declared.order.Watch.{Watch}
use Rattle.tk_edge.specs.declared.order.Watch.TheVariants as watches
use Rattle.tk_edge.specs.Armed.{TurnAnswers, TurnMissed}
use Rattle.tk_edge.specs.Causes.{raised}
use Rattle.tk_edge.specs.Files.{Files}
use Rattle.tk_entry.specs.declared.entry.Turn.{Turn}
use Rattle.tk_entry.specs.declared.entry.Turn.TheVariants as turns

-- an entrypoint, and whether it answered that its host failed
pub record Entry : Type 0 where
  pub armed : Armed
  pub failed : Bool

-- one that hasn't had a turn
abbrev pub first_entry : Order → List ℕ → List ℕ → Bool → Entry
first_entry order wait post keep_going = record {
  armed = record { order = order; wait = wait; post = post; keep_going = keep_going; note = None; child = None; exit = None; last = None };
  failed = false;
}

-- the same that puts its exit at a path too
abbrev pub with_note : List ℕ → Entry → Entry
with_note path entry = record entry { armed = record entry.armed { note = Some path } }

-- the answer of the armed entry as that of its turn
abbrev pub turn_of : Watch → Turn
turn_of watches.Waits = turns.Waits
turn_of watches.Started = turns.Started
turn_of watches.Runs = turns.Runs
turn_of (watches.Passed exit) = turns.Passed
turn_of (watches.Broke exit) = turns.Broke

-- a host's history and its count of faults, before a turn and behind it
pub record Seen : Type 0 where
  pub told : List Event
  pub now : List Event
  pub faults : ℕ
  pub faults_now : ℕ

abbrev pub seen_of : List Event → List Event → ℕ → ℕ → Seen
seen_of told now faults faults_now = record { told = told; now = now; faults = faults; faults_now = faults_now }

-- a turn in which no call on the host failed
pub record Answered (old new : Entry) (seen : Seen) (files : Option Files) (turn : Turn) : Type 0 where
  pub not_failed : old.failed ≡ false
  pub still : new.failed ≡ false
  pub watch : Watch
  pub is : turn ≡ turn_of watch
  pub answers : TurnAnswers old.armed new.armed seen.told seen.now files watch
  pub count : seen.faults_now ≡ seen.faults

-- a call on the host failed in this turn: nothing was started
pub record FirstFault (old new : Entry) (seen : Seen) : Type 0 where
  pub not_failed : old.failed ≡ false
  pub fails : new.failed ≡ true
  pub missed : TurnMissed old.armed new.armed seen.told seen.now
  pub count : seen.faults_now ≡ raised seen.faults

-- one had failed in an earlier turn: nothing happens
pub record FaultAgain (old new : Entry) (seen : Seen) : Type 0 where
  pub failed : old.failed ≡ true
  pub same : new ≡ old
  pub nothing : seen.now ≡ seen.told
  pub count : seen.faults_now ≡ seen.faults

-- what each answer says
abbrev pub EntryAnswers : Entry → Entry → Seen → Option Files → Turn → Type 0
EntryAnswers old new seen files turns.HostFault = FirstFault old new seen ⊎ FaultAgain old new seen
EntryAnswers old new seen files turn = Answered old new seen files turn

-- after want of memory nothing was started, and all but an exit that a poll gave is as before
pub record EntryMissed (old new : Entry) (seen : Seen) : Type 0 where
  pub not_failed : old.failed ≡ false
  pub still : new.failed ≡ false
  pub missed : TurnMissed old.armed new.armed seen.told seen.now
  pub count : seen.faults_now ≡ seen.faults
