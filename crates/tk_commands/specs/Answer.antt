-- What a command answers for the bytes of an input.
use Rattle.std.specs.Prelude.{◌≡◌, ℕ, Bool, true, false, List, [], ◌++◌, Some, None, if◌then◌else◌, codes}
use Rattle.tk_types.specs.First.{Finding}
use Rattle.tk_admit.specs.Admit.{input_fault}
use Rattle.tk_journal.specs.declared.entry.Entry.{Entry}
use Rattle.tk_manifest.specs.declared.kinds.KindSet.TheVariants.{WithScenario}
use Rattle.tk_report.specs.Json.{report_json_text}
use Rattle.tk_report.specs.Objects.{end_view}
use Rattle.tk_report.specs.Report.{report_text}
use Rattle.tk_report.specs.Status.{exit_status}
use Rattle.tk_simulate.specs.Played.{IsPlayed, given_by}
use Rattle.tk_commands.specs.declared.answer.Answer.{Answer}
use Rattle.tk_commands.specs.declared.command.Command.{Command}
use Rattle.tk_commands.specs.declared.command.Command.TheVariants.{Check, Decide, Simulate}
use Rattle.tk_commands.specs.declared.due.Due.{Due}
use Rattle.tk_commands.specs.Due.{IsCheckDue, IsDecideDue, rejected}

-- the report of a history's objects at its end, as one line of JSON or as text
abbrev pub reported_text : Bool → List Entry → List ℕ
reported_text true history = report_json_text (end_view history) history ++ codes "\n"
reported_text false history = report_text (end_view history) history

-- the status is 0 where every run closed True, 1 where one closed False and none is open, and 7 where one is
abbrev pub reported : Bool → List Entry → Due
reported json history = record { status = exit_status (end_view history) history; text = reported_text json history }

-- an input with a fault comes to no journal; without one it is played, and its journal is reported
abbrev pub Simulates : Bool → List ℕ → Finding → Answer → Type 0
Simulates json bytes (Some fault) answer = (answer.due ≡ rejected fault) × (answer.journal.history ≡ [])
Simulates json bytes None answer = IsPlayed (given_by bytes) answer.journal.history × (answer.due ≡ reported json answer.journal.history)

-- `check` and `decide` run nothing
abbrev pub IsAnswer : Command → List ℕ → Answer → Type 0
IsAnswer Check bytes answer = IsCheckDue bytes answer.due × (answer.journal.history ≡ [])
IsAnswer Decide bytes answer = IsDecideDue bytes answer.due × (answer.journal.history ≡ [])
IsAnswer (Simulate json) bytes answer = Simulates json bytes (input_fault WithScenario 0 bytes) answer
