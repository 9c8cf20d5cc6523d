-- Which words are a command.
use Rattle.std.specs.Prelude.{ℕ, Bool, true, false, List, [], ◌∷◌, Option, Some, None, if◌then◌else◌, option_map, codes, bytes_eq}
use Rattle.tk_words.specs.declared.line.Line.{Line}
use Rattle.tk_words.specs.declared.line.Name.{Name}
use Rattle.tk_words.specs.declared.line.Name.TheVariants as names
use Rattle.tk_words.specs.Line.{json_behind}
use Rattle.tk_commands.specs.declared.command.Command.{Command}
use Rattle.tk_commands.specs.declared.command.Command.TheVariants.{Check, Decide, Simulate}

-- a command that takes nothing more
abbrev pub alone : Command → List (List ℕ) → Option Command
alone command [] = Some command
alone command (word ∷ words) = None

-- `simulate` with the words behind it: `--json` stands once at most; behind `--` words aren't options, and `simulate` takes none
abbrev pub simulate_with : List (List ℕ) → Option Command
simulate_with words = option_map Simulate (json_behind false words)

-- the command that a first word begins
abbrev pub command_with : List ℕ → List (List ℕ) → Option Command
command_with word words =
    if bytes_eq word (codes "check") then alone Check words
    else if bytes_eq word (codes "decide") then alone Decide words
    else if bytes_eq word (codes "simulate") then simulate_with words
    else None

abbrev pub command_of : List (List ℕ) → Option Command
command_of [] = None
command_of (word ∷ words) = command_with word words

-- the command that a line is, if it is one of these
abbrev pub command_named : Name → Bool → Option Command
command_named names.Check json = Some Check
command_named names.Decide json = Some Decide
command_named names.Simulate json = Some (Simulate json)
command_named names.Run json = None
command_named names.Generate json = None

abbrev pub command_in : Line → Option Command
command_in line = command_named line.name line.json
