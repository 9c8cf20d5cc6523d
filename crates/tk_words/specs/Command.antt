-- The command of `clap` that reads the words in order.
use Rattle.std.specs.Prelude.{ℕ, List, Some, true, codes}
use Rattle.clap.specs.Words.{App, Rule, Shape, new_app, new_rule, with_rule, with_subcommand}
use Rattle.clap.specs.Simple.{on_top}
use Rattle.clap.specs.declared.builder.action.ArgAction.TheVariants.{Append, Set, SetTrue}

-- an option without a value
abbrev pub flag : List ℕ → Rule
flag id = record (new_rule id) { long = Some id; action = Some SetTrue }

-- an option with a value
abbrev pub option : List ℕ → Rule
option id = record (new_rule id) { long = Some id; action = Some Set }

-- any number of words
abbrev pub words : List ℕ → Rule
words id = record (new_rule id) { action = Some Append }

-- `simulate` with `--json`
abbrev pub simulate : App
simulate = with_rule (new_app (codes "simulate")) (flag (codes "json"))

-- `run` with `--json`, `--root` and any number of words
abbrev pub run : App
run = with_rule (with_rule (with_rule (new_app (codes "run")) (flag (codes "json"))) (option (codes "root"))) (words (codes "others"))

-- `generate` with `--run` and any number of words
abbrev pub generate : App
generate = with_rule (with_rule (new_app (codes "generate")) (flag (codes "run"))) (words (codes "others"))

-- nothing asks for help
abbrev pub without_help : Shape → Shape
without_help s = record s { disable_help_flag = true; disable_help_subcommand = true }

-- the command with its subcommands
abbrev pub tkn : App
tkn = with_subcommand (with_subcommand (with_subcommand (with_subcommand (with_subcommand
    (on_top without_help (new_app (codes "tkn")))
    (new_app (codes "check")).top) (new_app (codes "decide")).top) simulate.top) run.top) generate.top
