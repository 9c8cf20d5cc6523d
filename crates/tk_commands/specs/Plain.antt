-- How `plain` ends.
use Rattle.std.specs.Prelude.{◌≡◌, ℕ, ◌<◌, ◌==◌, ◌||◌, ◌⊎◌, ◌↔◌, if◌then◌else◌, Bool, true, List, [], length, Option, Some, None, ⊤}
use Rattle.std.specs.Io.KnownBytes.{Appends}
use Rattle.std.specs.Option.{ForSome}
use Rattle.tk_edge.specs.Causes.{raised}
use Rattle.tk_journal.specs.declared.entry.Entry.{Entry}
use Rattle.tk_commands.specs.declared.answer.Answer.{Answer}
use Rattle.tk_commands.specs.declared.command.Command.{Command}
use Rattle.tk_types.specs.Limits.{longest_input}
use Rattle.tk_commands.specs.Answer.{IsAnswer}
use Rattle.tk_commands.specs.Written.{AppendsFront}

-- a status with which a whole text is printed
abbrev pub is_answer : ℕ → Bool
is_answer status = (status == 0) || ((status == 1) || ((status == 3) || (status == 7)))

-- the bytes are those that are left, where that is told
abbrev pub Told : Option (List ℕ) → List ℕ → Type 0
Told None bytes = ⊤
Told (Some left) bytes = bytes ≡ left

-- this is answered for the bytes of the input
abbrev pub IsDue : Command → Option (List ℕ) → Answer → Type 0
IsDue command left answer = (bytes : List ℕ) × Told left bytes × IsAnswer command bytes answer

-- the end was given behind these bytes, or they are too many
abbrev pub IsOver : Bool → List ℕ → Type 0
IsOver ended bytes = (ended ≡ true) ⊎ (longest_input < length bytes)

-- this is answered for the bytes of the input, which is read to its end or too long
abbrev pub IsReadDue : Command → Option (List ℕ) → Bool → Answer → Type 0
IsReadDue command left ended answer = (bytes : List ℕ) × Told left bytes × IsOver ended bytes × IsAnswer command bytes answer

-- all that is due is printed, the status is the one that is due, and the journal is the one that was reported
abbrev pub Prints : Command → Option (List ℕ) → Bool → Option (List ℕ) → Option (List ℕ) → ℕ → List Entry → Type 0
Prints command left ended old new status history =
    (answer : Answer) × IsReadDue command left ended answer × (status ≡ answer.due.status) × Appends old new answer.due.text
    × (history ≡ answer.journal.history)

-- a front of what is due is printed, where the input was read
abbrev pub PrintsReadFront : Command → Option (List ℕ) → Bool → Option (List ℕ) → Option (List ℕ) → List Entry → Type 0
PrintsReadFront command left ended old new history =
    (answer : Answer) × IsReadDue command left ended answer × AppendsFront old new answer.due.text × (history ≡ answer.journal.history)

-- where memory ran out, nothing is printed, or such a front
abbrev pub PrintsFront : Command → Option (List ℕ) → Option (List ℕ) → Option (List ℕ) → Type 0
PrintsFront command left old new = (new ≡ old) ⊎ ((answer : Answer) × IsDue command left answer × AppendsFront old new answer.due.text)

-- The talk of a command with its source and its sink, and its end: all that `plain` promises, over what sources and sinks tell of
-- themselves. `command` is the command that the words are, if they are one.
module _ {R W : Type 0} (left : R → Option (List ℕ)) (ended : R → Bool) (read_faults : R → ℕ) (written : W → Option (List ℕ)) (write_faults : W → ℕ) where
  pub record Talks (command : Option Command) (input input_after : R) (sink sink_after : W) (status : ℕ) (history : List Entry) : Type 0 where
    -- the statuses are 0 to 7
    pub known : status < 8
    -- 2 is for words that are no command: nothing is read or written
    pub words : (status ≡ 2) ↔ (command ≡ None)
    pub words_read_nothing : status ≡ 2 → input_after ≡ input
    pub words_write_nothing : status ≡ 2 → sink_after ≡ sink
    -- for 2, 4 and 6 nothing ran
    pub nothing_ran : (status ≡ 2) ⊎ (status ≡ 4) ⊎ (status ≡ 6) → history ≡ []
    -- for 0, 1, 3 and 7 just what is due is printed, and the status is the one that is due
    pub answer : is_answer status ≡ true → ForSome command (λ named. Prints named (left input) (ended input_after) (written sink) (written sink_after) status history)
    -- 4 comes only of the source, and then nothing is written
    pub input_faults : read_faults input_after ≡ (if status == 4 then raised (read_faults input) else read_faults input)
    pub input_failed_writes_nothing : status ≡ 4 → sink_after ≡ sink
    -- 5 comes only of the sink, and then a front of what is due is printed
    pub sink_faults : write_faults sink_after ≡ (if status == 5 then raised (write_faults sink) else write_faults sink)
    pub sink_failed_front : status ≡ 5 → ForSome command (λ named. PrintsReadFront named (left input) (ended input_after) (written sink) (written sink_after) history)
    -- for 6 too, or nothing
    pub memory_front : status ≡ 6 → ForSome command (λ named. PrintsFront named (left input) (written sink) (written sink_after))
