-- The line that the words are, if they are one.
use Rattle.std.specs.Prelude.{◌≡◌, ℕ, ◌+◌, ◌==◌, ◌&&◌, not, Bool, true, false, List, [], ◌∷◌, ◌++◌, Option, Some, None, if◌then◌else◌, is_some, codes, bytes_eq, take, drop}
use Rattle.std.specs.List.{position}
use Rattle.tk_words.specs.declared.line.Line.{Line}
use Rattle.tk_words.specs.declared.line.Name.{Name}
use Rattle.tk_words.specs.declared.line.Name.TheVariants.{Check, Decide, Simulate, Run, Generate}
use Rattle.tk_words.specs.declared.scan.Scan.{Scan}

-- the command with this name
abbrev pub name_of : List ℕ → Option Name
name_of word =
    if bytes_eq word (codes "check") then Some Check
    else if bytes_eq word (codes "decide") then Some Decide
    else if bytes_eq word (codes "simulate") then Some Simulate
    else if bytes_eq word (codes "run") then Some Run
    else if bytes_eq word (codes "generate") then Some Generate
    else None

-- the command takes no further word
abbrev pub stands_alone : Name → Bool
stands_alone Check = true
stands_alone Decide = true
stands_alone _ = false

-- `--json` is an option of the command
abbrev pub json_is_for : Name → Bool
json_is_for Simulate = true
json_is_for Run = true
json_is_for _ = false

-- `--run` is an option of the command
abbrev pub run_is_for : Name → Bool
run_is_for Generate = true
run_is_for _ = false

-- `--root` is an option of the command
abbrev pub root_is_for : Name → Bool
root_is_for Run = true
root_is_for _ = false

-- the command takes words that are no options
abbrev pub others_are_for : Name → Bool
others_are_for Run = true
others_are_for Generate = true
others_are_for _ = false

-- the word begins with this byte
abbrev pub starts_with : ℕ → List ℕ → Bool
starts_with first [] = false
starts_with first (byte ∷ bytes) = byte == first

-- the folder in a word `--root=DIR`, by the place of its first `=` (61)
abbrev pub joined_at : List ℕ → Option ℕ → Option (List ℕ)
joined_at word None = None
joined_at word (Some place) = if bytes_eq (take place word) (codes "--root") then Some (drop (place + 1) word) else None

-- the folder in a word `--root=DIR`
abbrev pub joined_root : List ℕ → Option (List ℕ)
joined_root word = joined_at word (position (λ b. b == 61) word)

-- What the words said so far: options stand in any order, each at most once, and behind `--` no word is an option.

-- no word was read
abbrev pub start : Scan
start = record { json = false; run = false; root = None; awaits = false; only_others = false; others = [] }

-- `--json` is given, for the first time
abbrev pub with_json : Name → Scan → Option Scan
with_json name scan = if json_is_for name && not scan.json then Some (record scan { json = true }) else None

-- `--run` is given, for the first time
abbrev pub with_run : Name → Scan → Option Scan
with_run name scan = if run_is_for name && not scan.run then Some (record scan { run = true }) else None

-- the root is given, for the first time; its path is absolute (47 is `/`)
abbrev pub with_root : Scan → List ℕ → Option Scan
with_root scan folder =
    if is_some scan.root then None
    else if starts_with 47 folder then Some (record scan { root = Some folder; awaits = false })
    else None

-- a word that is no option
abbrev pub with_plain : Name → Scan → List ℕ → Option Scan
with_plain name scan word = if others_are_for name then Some (record scan { others = scan.others ++ word ∷ [] }) else None

-- a word that is no option on its own: a root with its folder, or one of the others; an unknown option (45 is `-`) is refused
abbrev pub with_other : Name → Scan → List ℕ → Option (List ℕ) → Option Scan
with_other name scan word (Some folder) = if root_is_for name then with_root scan folder else None
with_other name scan word None = if starts_with 45 word then None else with_plain name scan word

-- a word in front of `--`
abbrev pub with_option : Name → Scan → List ℕ → Option Scan
with_option name scan word =
    if bytes_eq word (codes "--") then Some (record scan { only_others = true })
    else if bytes_eq word (codes "--json") then with_json name scan
    else if bytes_eq word (codes "--run") then with_run name scan
    else if bytes_eq word (codes "--root") then (if root_is_for name then Some (record scan { awaits = true }) else None)
    else with_other name scan word (joined_root word)

-- one word more; behind `--root` it is the folder
abbrev pub step : Name → Scan → List ℕ → Option Scan
step name scan word =
    if scan.awaits then with_root scan word
    else if scan.only_others then with_plain name scan word
    else with_option name scan word

-- the word fits, and this is what it leaves; or it doesn't
abbrev pub Fits : Bool → Option Scan → Scan → Type 0
Fits true found new = found ≡ Some new
Fits false found new = found ≡ None

-- all the words, one after the other
abbrev pub scanned : Name → Option Scan → List (List ℕ) → Option Scan
scanned name None words = None
scanned name (Some scan) [] = Some scan
scanned name (Some scan) (word ∷ words) = scanned name (step name scan word) words

-- the line of what the words said
abbrev pub line_in : Name → Scan → Line
line_in name scan = record { name = name; json = scan.json; run = scan.run; root = scan.root; others = scan.others }

-- at the end no folder is awaited
abbrev pub finished : Name → Option Scan → Option Line
finished name None = None
finished name (Some scan) = if scan.awaits then None else Some (line_in name scan)

-- a command that takes nothing more
abbrev pub alone : Name → List (List ℕ) → Option Line
alone name [] = Some (line_in name start)
alone name (word ∷ words) = None

-- the line of a command with the words behind it
abbrev pub line_with : Option Name → List (List ℕ) → Option Line
line_with None words = None
line_with (Some name) words = if stands_alone name then alone name words else finished name (scanned name (Some start) words)

-- the line of the words behind the program's name
abbrev pub line_of : List (List ℕ) → Option Line
line_of [] = None
line_of (word ∷ words) = line_with (name_of word) words

-- whether `--json` stands behind `simulate`, where all words behind it are in the grammar: it is its only option, and behind `--`
-- stands nothing
abbrev pub only_behind : List (List ℕ) → Bool → Option Bool
only_behind [] json = Some json
only_behind (word ∷ words) json = None

abbrev pub json_behind : Bool → List (List ℕ) → Option Bool
json_behind json [] = Some json
json_behind json (word ∷ words) =
    if bytes_eq word (codes "--json") then (if json then None else json_behind true words)
    else if bytes_eq word (codes "--") then only_behind words json
    else None
