-- The words of a line in order, and what matches say.
use Rattle.std.specs.Prelude.{ℕ, ◌&&◌, ◌||◌, not, Bool, true, false, List, [], ◌∷◌, ◌++◌, Option, Some, None, option_map, unwrap_or, codes, bytes_eq}
use Rattle.clap.specs.Words.{Row, all_of, first_of}
use Rattle.tk_words.specs.declared.line.Line.{Line}
use Rattle.tk_words.specs.declared.line.Name.{Name}
use Rattle.tk_words.specs.declared.line.Name.TheVariants.{Check, Decide, Simulate, Run, Generate}
use Rattle.tk_words.specs.Line.{json_is_for, name_of, others_are_for, root_is_for, run_is_for, starts_with}

-- the name of a command
abbrev pub name_text : Name → List ℕ
name_text Check = codes "check"
name_text Decide = codes "decide"
name_text Simulate = codes "simulate"
name_text Run = codes "run"
name_text Generate = codes "generate"

-- an option, where it was given
abbrev pub flag_words : Bool → List ℕ → List (List ℕ)
flag_words true word = word ∷ []
flag_words false word = []

-- the root's option and its folder, where it was given
abbrev pub root_words : Option (List ℕ) → List (List ℕ)
root_words (Some folder) = codes "--root" ∷ folder ∷ []
root_words None = []

-- the words of a line, in order: the program, the command, its options, and behind `--` the others
abbrev pub ordered : Line → List (List ℕ)
ordered line = codes "tkn" ∷ name_text line.name ∷ flag_words line.json (codes "--json") ++ (flag_words line.run (codes "--run")
    ++ (root_words line.root ++ codes "--" ∷ line.others))

-- a root is given only to a command that takes it, and its path is absolute (47 is `/`)
abbrev pub root_fits : Bool → Option (List ℕ) → Bool
root_fits takes None = true
root_fits takes (Some folder) = takes && starts_with 47 folder

-- there is no word
abbrev pub is_empty : List (List ℕ) → Bool
is_empty [] = true
is_empty (word ∷ words) = false

-- a line has only what its command takes
abbrev pub fits_line : Line → Bool
fits_line line = (json_is_for line.name || not line.json) && ((run_is_for line.name || not line.run)
    && (root_fits (root_is_for line.name) line.root && (others_are_for line.name || is_empty line.others)))

-- the value of an option without a value, where it was given
abbrev pub is_true : Option (List ℕ) → Bool
is_true None = false
is_true (Some text) = bytes_eq text (codes "true")

-- what the matches of a command say
abbrev pub line_from : Name → List Row → Line
line_from name rows = record {
  name = name;
  json = is_true (first_of (codes "json") rows);
  run = is_true (first_of (codes "run") rows);
  root = first_of (codes "root") rows;
  others = unwrap_or (all_of (codes "others") rows) [];
}

-- the line of the subcommand that was met, with its matches
abbrev pub line_met : Option (List ℕ × List Row) → Option Line
line_met None = None
line_met (Some met) = option_map (λ name. line_from name met.1) (name_of met.0)
