-- The words of a line in order are taken, and their matches are the line.
use Rattle.std.proofs.Common.{◌≡◌, ◌∙◌, ◌&&◌, ◌==◌, Bool, true, false, List, [], ◌∷◌, ◌++◌, Option, Some, None, refl, ap, ap₂, codes, eqb-true, is_some}
use Rattle.std.specs.Prelude.{fold}
use Rattle.std.specs.List.{list_all}
use Rattle.clap.specs.Walk.{Held, Row, Text, Walk, arg_by_id, arg_by_index, finished, has_row, nothing_held, rows_after, walk_from, walked, with_default, with_values}
use Rattle.clap.specs.Simple.{Shape, built, built_leaf, entered, inherited, is_simple, names_of, subcommand_of}
use Rattle.clap.specs.Takes.{default_passes, entered_passes, is_valid, level_passes, settle_passes, takes, walk_passes}
use Rattle.clap.specs.Words.{new_app}
use Rattle.clap.specs.declared.parser.matches.ValueSource.TheVariants.{CommandLine}
use Rattle.clap.specs.declared.builder.value_parser.Reading.TheVariants.{AsWritten}
use Rattle.clap.proofs.OnLiterals.{clap_on_literals}
use Rattle.clap.proofs.WalkLemmas.{both}
use Rattle.tk_words.specs.declared.line.Line.{Line}
use Rattle.tk_words.specs.declared.line.Name.{Name}
use Rattle.tk_words.specs.declared.line.Name.TheVariants.{Check, Decide, Simulate, Run, Generate}
use Rattle.tk_words.specs.Line.{stands_alone}
use Rattle.tk_words.specs.Command.{generate, run, simulate, tkn}
use Rattle.tk_words.specs.Ordered.{fits_line, flag_words, line_from, line_met, name_text, ordered, root_words}
use Rattle.tk_words.proofs.Walks.{all_more, behind, gathered, others, others_row, settle_holds, settles, stay_passes, stays, stopped_at, words_pass}

-- ---- a command's own level

-- the subcommand as the built command has it
abbrev leaf_of : Shape → Shape
leaf_of s = built_leaf (inherited (built tkn).top s)

abbrev leaf : Name → Shape
leaf Check = leaf_of (new_app (codes "check")).top
leaf Decide = leaf_of (new_app (codes "decide")).top
leaf Simulate = leaf_of simulate.top
leaf Run = leaf_of run.top
leaf Generate = leaf_of generate.top

-- what the top level asks, by where its walk ends
abbrev top_passes : Walk → Bool → Bool
top_passes end walks = is_simple tkn && (entered_passes (built tkn) end.stopped && (walks && (settle_passes (built tkn).top.rules (built tkn).top.args_override_self end.held
    && (list_all default_passes (built tkn).top.rules && is_valid (built tkn).top (finished (built tkn).top.rules end.held) (is_some (entered (built tkn) end.stopped))))))

abbrev start_at : Name → Walk
start_at name = stopped_at (walk_from nothing_held) (name_text name) []

abbrev top_end : Name → List Text → Walk
top_end name words = fold (walked (built tkn).top.rules (names_of (built tkn))) (start_at name) words

abbrev top_walks : Name → List Text → Bool
top_walks name words = walk_passes (built tkn).top (names_of (built tkn)) (start_at name) words

top_is : (name : Name) (words : List Text) → takes tkn (codes "tkn" ∷ name_text name ∷ words) ≡ top_passes (top_end name words) (top_walks name words)
unfolding clap_on_literals
top_is Check words = refl
top_is Decide words = refl
top_is Simulate words = refl
top_is Run words = refl
top_is Generate words = refl

-- the walk ends at the subcommand's name, with the words behind it
ends : (name : Name) (words : List Text) → top_end name words ≡ stopped_at (walk_from nothing_held) (name_text name) words
ends name words = stays (built tkn).top.rules (names_of (built tkn)) (walk_from nothing_held) (name_text name) [] words

-- so the command takes what the subcommand takes
level_is : (name : Name) (words : List Text) → level_passes (leaf name) [] nothing_held words false ≡ true
    → top_passes (stopped_at (walk_from nothing_held) (name_text name) words) true ≡ true
unfolding clap_on_literals
level_is Check words e = ap (λ (b : Bool). b && true) e
level_is Decide words e = ap (λ (b : Bool). b && true) e
level_is Simulate words e = ap (λ (b : Bool). b && true) e
level_is Run words e = ap (λ (b : Bool). b && true) e
level_is Generate words e = ap (λ (b : Bool). b && true) e

taken : (name : Name) (words : List Text) → level_passes (leaf name) [] nothing_held words false ≡ true → takes tkn (codes "tkn" ∷ name_text name ∷ words) ≡ true
taken name words e =
    top_is name words
    ∙ ap₂ top_passes (ends name words) (stay_passes (built tkn).top (names_of (built tkn)) (walk_from nothing_held) (name_text name) [] words)
    ∙ level_is name words e

-- and its matches are those of the subcommand
sub_is : (name : Name) (words : List Text) → subcommand_of tkn (codes "tkn" ∷ name_text name ∷ words) ≡ entered (built tkn) (top_end name words).stopped
unfolding clap_on_literals
sub_is Check words = refl
sub_is Decide words = refl
sub_is Simulate words = refl
sub_is Run words = refl
sub_is Generate words = refl

met_is : (name : Name) (words : List Text) → line_met (entered (built tkn) (Some (name_text name, words))) ≡ Some (line_from name (rows_after (leaf name).rules [] words))
met_is Check words = refl
met_is Decide words = refl
met_is Simulate words = refl
met_is Run words = refl
met_is Generate words = refl

met : (name : Name) (words : List Text) → line_met (subcommand_of tkn (codes "tkn" ∷ name_text name ∷ words)) ≡ Some (line_from name (rows_after (leaf name).rules [] words))
met name words = ap line_met (sub_is name words) ∙ ap (λ (w : Walk). line_met (entered (built tkn) w.stopped)) (ends name words) ∙ met_is name words

-- ---- the rows of the words in front of `--`

abbrev flag_row : Text → Row
flag_row id = record { id = id; values = codes "true" ∷ []; count = None; source = Some CommandLine; reading = AsWritten }

abbrev flag_rows : Bool → Text → List Row
flag_rows true id = flag_row id ∷ []
flag_rows false id = []

abbrev root_row : Text → Row
root_row folder = record { id = codes "root"; values = folder ∷ []; count = None; source = Some CommandLine; reading = AsWritten }

abbrev root_rows : Option Text → List Row
root_rows None = []
root_rows (Some folder) = root_row folder ∷ []

-- the subcommand takes the words, and its matches are the line
abbrev pub Means : Name → List Text → Line → Type 0
Means name words line = (level_passes (leaf name) [] nothing_held words false ≡ true) × (line_from name (rows_after (leaf name).rules [] words) ≡ line)

-- the words behind `--`, for the rules of a subcommand that takes them
module _ (s : Shape) (at : arg_by_index s.rules 1 ≡ Some others) (by_id : arg_by_id s.rules (codes "others") ≡ Some others) where
  abbrev tail_end : List Row → Text → List Text → Walk
  tail_end rows word words = fold (walked s.rules []) (behind rows word) words

  tail_passes : (rows : List Row) (word : Text) (words : List Text)
      → (walk_passes s [] (behind rows word) words && (settle_passes s.rules s.args_override_self (tail_end rows word words).held && true)) ≡ true
  tail_passes rows word words = ap₂ (λ (a b : Bool). a && (b && true)) (words_pass s at by_id rows word words) (settle_holds s.rules at by_id s.args_override_self rows word words)

  tail_rows : (rows : List Row) (word : Text) (words : List Text) → has_row (codes "others") rows ≡ false
      → with_values (codes "others") AsWritten CommandLine (word ∷ []) rows ≡ rows ++ others_row (word ∷ []) ∷ []
      → finished s.rules (tail_end rows word words).held ≡ fold with_default (rows ++ others_row (word ∷ words) ∷ []) s.rules
  tail_rows rows word words none new =
      ap (λ (h : Held). fold with_default h.rows s.rules) (settles s.rules at by_id rows word words)
      ∙ ap (λ (rs : List Row). fold with_default (gathered rs words) s.rules) new
      ∙ ap (λ (rs : List Row). fold with_default rs s.rules) (all_more rows (word ∷ []) words none)

-- ---- each command

alone_means : (name : Name) → stands_alone name ≡ true → Means name (codes "--" ∷ []) (record { name = name; json = false; run = false; root = None; others = [] })
unfolding clap_on_literals
alone_means Check e = (refl, refl)
alone_means Decide e = (refl, refl)
alone_means Simulate e = cc
alone_means Run e = cc
alone_means Generate e = cc

simulate_means : (json : Bool) → Means Simulate (flag_words json (codes "--json") ++ codes "--" ∷ []) (record { name = Simulate; json = json; run = false; root = None; others = [] })
unfolding clap_on_literals
simulate_means true = (refl, refl)
simulate_means false = (refl, refl)

generate_means : (run : Bool) (others : List Text)
    → Means Generate (flag_words run (codes "--run") ++ codes "--" ∷ others) (record { name = Generate; json = false; run = run; root = None; others = others })
unfolding clap_on_literals
generate_means true [] = (refl, refl)
generate_means false [] = (refl, refl)
generate_means true (word ∷ words) = (
  tail_passes (leaf Generate) refl refl (flag_rows true (codes "run")) word words,
  ap (line_from Generate) (tail_rows (leaf Generate) refl refl (flag_rows true (codes "run")) word words refl refl),
)
generate_means false (word ∷ words) =
    (tail_passes (leaf Generate) refl refl [] word words, ap (line_from Generate) (tail_rows (leaf Generate) refl refl [] word words refl refl))

run_means : (json : Bool) (others : List Text)
    → Means Run (flag_words json (codes "--json") ++ codes "--" ∷ others) (record { name = Run; json = json; run = false; root = None; others = others })
unfolding clap_on_literals
run_means true [] = (refl, refl)
run_means false [] = (refl, refl)
run_means true (word ∷ words) = (
  tail_passes (leaf Run) refl refl (flag_rows true (codes "json")) word words,
  ap (line_from Run) (tail_rows (leaf Run) refl refl (flag_rows true (codes "json")) word words refl refl),
)
run_means false (word ∷ words) =
    (tail_passes (leaf Run) refl refl [] word words, ap (line_from Run) (tail_rows (leaf Run) refl refl [] word words refl refl))

root_means : (json : Bool) (folder : Text) (others : List Text)
    → Means Run (flag_words json (codes "--json") ++ codes "--root" ∷ (47 ∷ folder) ∷ codes "--" ∷ others)
    (record { name = Run; json = json; run = false; root = Some (47 ∷ folder); others = others })
unfolding clap_on_literals
root_means true folder [] = (refl, refl)
root_means false folder [] = (refl, refl)
root_means true folder (word ∷ words) =
    let rows : List Row = flag_row (codes "json") ∷ root_row (47 ∷ folder) ∷ [] in
    (tail_passes (leaf Run) refl refl rows word words, ap (line_from Run) (tail_rows (leaf Run) refl refl rows word words refl refl))
root_means false folder (word ∷ words) =
    let rows : List Row = root_row (47 ∷ folder) ∷ [] in
    (tail_passes (leaf Run) refl refl rows word words, ap (line_from Run) (tail_rows (leaf Run) refl refl rows word words refl refl))

-- ---- any line that fits

means : (name : Name) (json run : Bool) (root : Option Text) (others : List Text)
    → fits_line (record { name = name; json = json; run = run; root = root; others = others }) ≡ true
    → Means name (flag_words json (codes "--json") ++ (flag_words run (codes "--run") ++ (root_words root ++ codes "--" ∷ others)))
    (record { name = name; json = json; run = run; root = root; others = others })
means Check false false None [] fits = alone_means Check refl
means Check true run root others fits = cc
means Check false true root others fits = cc
means Check false false (Some folder) others fits = cc
means Check false false None (word ∷ words) fits = cc
means Decide false false None [] fits = alone_means Decide refl
means Decide true run root others fits = cc
means Decide false true root others fits = cc
means Decide false false (Some folder) others fits = cc
means Decide false false None (word ∷ words) fits = cc
means Simulate json false None [] fits = simulate_means json
means Simulate json true root others fits = cc
means Simulate json false (Some folder) others fits = cc
means Simulate json false None (word ∷ words) fits = cc
means Run json true root others fits = cc
means Run json false None others fits = run_means json others
means Run json false (Some []) others fits = cc
means Run json false (Some (byte ∷ folder)) others fits =
    let slash : byte ≡ 47 = eqb-true byte 47 (both (byte == 47) true fits).0 in
    rw slash (root_means json folder others)
means Generate true run root others fits = cc
means Generate false run None others fits = generate_means run others
means Generate false run (Some folder) others fits = cc

-- the words behind the command's name
abbrev behind_name : Line → List Text
behind_name line = flag_words line.json (codes "--json") ++ (flag_words line.run (codes "--run") ++ (root_words line.root ++ codes "--" ∷ line.others))

-- the words of a line in order are taken
pub line_taken : (line : Line) → fits_line line ≡ true → takes tkn (ordered line) ≡ true
line_taken line fits = taken line.name (behind_name line) (means line.name line.json line.run line.root line.others fits).0

-- and what was met is the line
line_meant : (line : Line) → fits_line line ≡ true → line_met (subcommand_of tkn (ordered line)) ≡ Some line
line_meant line fits = met line.name (behind_name line) ∙ ap (λ (l : Line). Some l) (means line.name line.json line.run line.root line.others fits).1

-- the same of words that equal these
pub words_meant : (line : Line) (words : List Text) (met : Option (Text × List Row)) → fits_line line ≡ true → words ≡ ordered line → met ≡ subcommand_of tkn words → line_met met ≡ Some line
words_meant line words met fits are is = ap line_met (is ∙ ap (subcommand_of tkn) are) ∙ line_meant line fits
