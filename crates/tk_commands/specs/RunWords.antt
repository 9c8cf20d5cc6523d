-- The words of `run`: what a line of it says.
use Rattle.std.specs.Prelude.{ℕ, ◌+◌, ◌==◌, Bool, true, false, List, [], ◌∷◌, ◌++◌, Option, Some, None, if◌then◌else◌, option_and_then, option_map, unwrap_or, codes, bytes_eq, take, drop}
use Rattle.std.specs.List.{position}
use Rattle.tk_types.specs.declared.object.Asked.{Asked}
use Rattle.tk_types.specs.declared.object.Asked.TheVariants as asks
use Rattle.tk_names.specs.Rules.{is_object_name}
use Rattle.tk_time.specs.Duration.{duration_of}
use Rattle.tk_run.specs.declared.asks.AskWord.{AskWord}
use Rattle.tk_words.specs.declared.line.Line.{Line}
use Rattle.tk_words.specs.Line.{line_of}
use Rattle.tk_commands.specs.declared.run_line.RunOptions.{RunOptions}

-- a text that is cut in two at a byte

pub record Halves : Type 0 where
  pub front : List ℕ
  pub back : List ℕ

abbrev pub halves_at : List ℕ → Option ℕ → Option Halves
halves_at word None = None
halves_at word (Some place) = Some record { front = take place word; back = drop (place + 1) word }

abbrev pub halves : ℕ → List ℕ → Option Halves
halves byte word = halves_at word (position (λ b. b == byte) word)

abbrev pub is_empty : List ℕ → Bool
is_empty [] = true
is_empty (byte ∷ bytes) = false

-- an ask `RUN=STATUS@DURATION`, where RUN may name an object

abbrev pub asked_of : List ℕ → Option Asked
asked_of word =
    if bytes_eq word (codes "Start") then Some asks.Start
    else if bytes_eq word (codes "StoppedRunFinally") then Some asks.StoppedRunFinally
    else if bytes_eq word (codes "CancelledRunFinally") then Some asks.CancelledRunFinally
    else if bytes_eq word (codes "Cancelled") then Some asks.Cancelled
    else if bytes_eq word (codes "TaskRunCancelled") then Some asks.TaskRunCancelled
    else None

abbrev pub ask_with : List ℕ → Option Asked → Option ℕ → Option AskWord
ask_with run (Some status) (Some delay) = Some record { run = run; status = status; delay = delay }
ask_with run None delay = None
ask_with run (Some status) None = None

abbrev pub ask_behind : List ℕ → Option Halves → Option AskWord
ask_behind run None = None
ask_behind run (Some words) = ask_with run (asked_of words.front) (duration_of words.back)

abbrev pub ask_in : Option Halves → Option AskWord
ask_in None = None
ask_in (Some words) = if is_object_name words.front then ask_behind words.front (halves 64 words.back) else None

abbrev pub ask_of : List ℕ → Option AskWord
ask_of word = ask_in (halves 61 word)

-- all asks, where each word is one

abbrev pub with_ask : List AskWord → Option AskWord → Option (List AskWord)
with_ask asks None = None
with_ask asks (Some ask) = Some (asks ++ ask ∷ [])

abbrev pub asks_behind : Option (List AskWord) → List (List ℕ) → Option (List AskWord)
asks_behind None words = None
asks_behind (Some asks) [] = Some asks
asks_behind (Some asks) (word ∷ words) = asks_behind (with_ask asks (ask_of word)) words

abbrev pub asks_in : List (List ℕ) → Option (List AskWord)
asks_in words = asks_behind (Some []) words

-- options

abbrev pub default_root : List ℕ
default_root = codes "/tmp/tkn"

abbrev pub options_with : Line → Option (List AskWord) → Option RunOptions
options_with line asks = option_map (λ (all : List AskWord). record { json = line.json; root = unwrap_or line.root default_root; asks = all }) asks

-- the options that a line of `run` has
abbrev pub run_in : Line → Option RunOptions
run_in line = options_with line (asks_in line.others)

abbrev pub run_options : List (List ℕ) → Option RunOptions
run_options words = option_and_then run_in (line_of words)

-- the same, where the first word is that
abbrev pub run_of : List (List ℕ) → Option (Option RunOptions)
run_of [] = None
run_of (word ∷ words) = if bytes_eq word (codes "run") then Some (run_options (word ∷ words)) else None
