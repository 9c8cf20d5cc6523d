-- How `run` ends.
use Rattle.std.specs.Prelude.{◌≡◌, ◌⊎◌, ℕ, Bool, List, [], Option, Some, None, Result, Ok, Err, ⊤}
use Rattle.std.specs.Io.KnownBytes.{Appends}
use Rattle.tk_types.specs.declared.rejected.Rejected.{Rejected}
use Rattle.tk_types.specs.First.{Finding}
use Rattle.tk_edge.specs.Causes.{raised}
use Rattle.tk_edge.specs.declared.event.Event.{Event}
use Rattle.tk_edge.specs.declared.gate.GateTurn.{GateTurn}
use Rattle.tk_journal.specs.declared.entry.Entry.{Entry}
use Rattle.tk_journal.specs.Progress.{IsOpen}
use Rattle.tk_rounds.specs.declared.bench.Bench.{Bench}
use Rattle.tk_run.specs.Asks.{AreAllTried}
use Rattle.tk_run.specs.Run.{IsRun, fault_by, given_by}
use Rattle.tk_commands.specs.declared.answer.Answer.{Answer}
use Rattle.tk_commands.specs.declared.command.Command.{Command}
use Rattle.tk_commands.specs.declared.due.Due.{Due}
use Rattle.tk_commands.specs.declared.generate_words.Generation.{Generation}
use Rattle.tk_commands.specs.declared.top.Unrun.{Unrun}
use Rattle.tk_commands.specs.declared.top.Unrun.TheVariants as unrun
use Rattle.tk_commands.specs.Answer.{reported}
use Rattle.tk_commands.specs.Due.{IsRefusalDue, rejected}
use Rattle.tk_commands.specs.Plain.{IsOver, Told}
use Rattle.tk_commands.specs.declared.run_line.RunOptions.{RunOptions}
use Rattle.tk_commands.specs.Written.{AppendsFront}

-- the words are neither options of `run`, nor words of `generate`, nor another command
abbrev pub IsUsage : Option (Option RunOptions) → Option (Option Generation) → Option Command → Type 0
IsUsage (Some None) generation command = ⊤
IsUsage (Some (Some options)) generation command = ⊥
IsUsage None (Some None) command = ⊤
IsUsage None (Some (Some wanted)) command = ⊥
IsUsage None None command = command ≡ None

-- this is due for a run that came to such an end: the report of its journal, or the line of the input's fault
abbrev pub IsDueOf : Bool → List Entry → Result (Unit {0}) Rejected → Due → Type 0
IsDueOf json history (Ok end) due = due ≡ reported json history
IsDueOf json history (Err error) due = IsRefusalDue error due

-- all that is due of such an answer is printed, the status is the one that is due, and the journal is the answer's
abbrev pub PrintsOne : (Answer → Type 0) → Option (List ℕ) → Option (List ℕ) → ℕ → List Entry → Type 0
PrintsOne Is before after status history =
    (answer : Answer) × Is answer × (status ≡ answer.due.status) × Appends before after answer.due.text × (history ≡ answer.journal.history)

-- a front of it is printed
abbrev pub PrintsFrontOf : (Answer → Type 0) → Option (List ℕ) → Option (List ℕ) → List Entry → Type 0
PrintsFrontOf Is before after history = (answer : Answer) × Is answer × AppendsFront before after answer.due.text × (history ≡ answer.journal.history)

module _ {K H G : Type 0} (answers : G → Option (List GateTurn)) (readings : K → Option (List ℕ)) (last : K → ℕ) (told : H → List Event) (killed : H → ℕ → Bool) (faults : H → ℕ) where
  -- an input with a fault comes to no journal and leaves the bench as it is; without one its runs are run to their end, and
  -- the journal is reported
  abbrev pub RunsBy : RunOptions → List ℕ → Bench K H G → Bench K H G → Finding → Answer → Type 0
  RunsBy options bytes old new (Some fault) answer = (answer.due ≡ rejected fault) × (answer.journal.history ≡ []) × (new ≡ old)
  RunsBy options bytes old new None answer =
      IsRun answers readings last told killed faults options.root options.asks (given_by options.root options.asks bytes) old new answer.journal.history × (IsOpen answer.journal.history → ⊥)
      × AreAllTried (last old.user) options.asks answer.journal.history
      × (answer.due ≡ reported options.json answer.journal.history)

  abbrev pub IsRunAnswer : RunOptions → List ℕ → Bench K H G → Bench K H G → Answer → Type 0
  IsRunAnswer options bytes old new answer = RunsBy options bytes old new (fault_by options.asks bytes) answer

  -- this is answered for the bytes of the input, which is read to its end or too long
  abbrev pub IsRunDue : RunOptions → Option (List ℕ) → Bool → Bench K H G → Bench K H G → Answer → Type 0
  IsRunDue options left ended old new answer = (bytes : List ℕ) × Told left bytes × IsOver ended bytes × IsRunAnswer options bytes old new answer

  -- where memory ran out: nothing was run, or it was run so far
  abbrev pub RunsSoFar : RunOptions → List ℕ → Bench K H G → Bench K H G → List Entry → Type 0
  RunsSoFar options bytes old new history =
      ((history ≡ []) × (new ≡ old))
      ⊎ ((fault_by options.asks bytes ≡ None) × IsRun answers readings last told killed faults options.root options.asks (given_by options.root options.asks bytes) old new history)

  -- so of the bytes of an input, which was read to its end where anything was run
  abbrev pub RunsSoFarOf : RunOptions → Option (List ℕ) → Bool → Bench K H G → Bench K H G → List Entry → Type 0
  RunsSoFarOf options left ended old new history =
      ((history ≡ []) × (new ≡ old)) ⊎ ((bytes : List ℕ) × Told left bytes × IsOver ended bytes × RunsSoFar options bytes old new history)

  -- where nothing is answered: the input failed, and the bench is as it was; or memory ran out
  abbrev pub LeftBy : RunOptions → Option (List ℕ) → Bool → Bench K H G → Bench K H G → Unrun → Type 0
  LeftBy options left ended old new unrun.Failed = new ≡ old
  LeftBy options left ended old new (unrun.Memory journal) = RunsSoFarOf options left ended old new journal.history

-- the count of a source's faults: one more where the input failed, and as it was where not
abbrev pub CountsRun : {T : Type 0} → ℕ → ℕ → Result T Unrun → Type 0
CountsRun before after (Err unrun.Failed) = after ≡ raised before
CountsRun before after _ = after ≡ before

-- where memory ran out: nothing was written and it came so far, or a front of what is due was written
pub data IsCutShort (Unwritten SoFar Front : Type 0) : Type 0 where
  Before : Unwritten → SoFar → IsCutShort Unwritten SoFar Front
  Behind : Front → IsCutShort Unwritten SoFar Front
