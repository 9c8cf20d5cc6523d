-- A walk over words behind a subcommand's name, and over words behind `--`.
use Rattle.std.proofs.Common.{◌≡◌, ◌∙◌, ◌&&◌, Bool, true, false, List, [], ◌∷◌, ◌++◌, Some, None, refl, sym, ap, ap₂, codes}
use Rattle.std.specs.Prelude.{fold}
use Rattle.std.specs.Str.{bytes_eq}
use Rattle.std.proofs.lemmas.List.{append-nil, append_assoc}
use Rattle.clap.specs.Walk.{Names, Row, Rule, Text, Walk, arg_by_id, arg_by_index, has_row, positional, settled, walked, with_values}
use Rattle.clap.specs.Simple.{Shape}
use Rattle.clap.specs.Takes.{settle_passes, turn_passes, walk_passes}
use Rattle.clap.specs.declared.parser.matches.ValueSource.TheVariants.{CommandLine}
use Rattle.clap.specs.declared.builder.value_parser.Reading.TheVariants.{AsWritten}
use Rattle.clap.specs.Simple.{filled, with_index}
use Rattle.tk_words.specs.Command.{words as words_rule}

-- ---- behind a subcommand's name

-- the walk stands still at a subcommand, and keeps the words behind it
abbrev pub stopped_at : Walk → Text → List Text → Walk
stopped_at w name seen = record w { stopped = Some (name, seen) }

pub stays : (c : List Rule) (names : Names) (w : Walk) (name : Text) (seen words : List Text)
    → fold (walked c names) (stopped_at w name seen) words ≡ stopped_at w name (seen ++ words)
unfolding walked
stays c names w name seen [] = ap (stopped_at w name) (sym (append-nil seen))
stays c names w name seen (x ∷ xs) = stays c names w name (seen ++ x ∷ []) xs ∙ ap (stopped_at w name) (append_assoc seen (x ∷ []) xs)

pub stay_passes : (s : Shape) (names : Names) (w : Walk) (name : Text) (seen words : List Text)
    → walk_passes s names (stopped_at w name seen) words ≡ true
unfolding walk_passes walked
stay_passes s names w name seen [] = refl
stay_passes s names w name seen (x ∷ xs) = stay_passes s names w name (seen ++ x ∷ []) xs

-- ---- behind `--`

-- the argument for any number of words, as the first positional of a command that is built
abbrev pub others : Rule
others = with_index 1 (filled (words_rule (codes "others")))

-- the walk behind `--`, where the last word waits to be used
abbrev pub behind : List Row → Text → Walk
behind rows word = record {
  held = record { rows = rows; pending = Some (codes "others", word ∷ []); skip = 0 };
  waiting = positional;
  position = 1;
  is_trailing = true;
  stopped = None;
}

abbrev pub gathered : List Row → List Text → List Row
gathered rows [] = rows
gathered rows (word ∷ words) = gathered (with_values (codes "others") AsWritten CommandLine (word ∷ []) rows) words

-- ---- the rows

abbrev pub others_row : List Text → Row
others_row values = record { id = codes "others"; values = values; count = None; source = Some CommandLine; reading = AsWritten }

-- one word more goes to the last row
pub one_more : (rows : List Row) (values : List Text) (word : Text) → has_row (codes "others") rows ≡ false
    → with_values (codes "others") AsWritten CommandLine (word ∷ []) (rows ++ others_row values ∷ []) ≡ rows ++ others_row (values ++ word ∷ []) ∷ []
one_more [] values word none = refl
one_more (r ∷ rows) values word none = go (bytes_eq r.id (codes "others")) refl (λ rest. one_more rows values word rest)
  where
    go : (b : Bool) → bytes_eq r.id (codes "others") ≡ b
        → (has_row (codes "others") rows ≡ false → with_values (codes "others") AsWritten CommandLine (word ∷ []) (rows ++ others_row values ∷ []) ≡ rows ++ others_row (values ++ word ∷ []) ∷ [])
        → with_values (codes "others") AsWritten CommandLine (word ∷ []) (r ∷ rows ++ others_row values ∷ []) ≡ r ∷ rows ++ others_row (values ++ word ∷ []) ∷ []
    go true e rec = let bad : true ≡ false = rw e at none in cc
    go false e rec = let rest : has_row (codes "others") rows ≡ false = rw e at none in rw e (ap (λ (rs : List Row). r ∷ rs) (rec rest))

pub all_more : (rows : List Row) (values words : List Text) → has_row (codes "others") rows ≡ false
    → gathered (rows ++ others_row values ∷ []) words ≡ rows ++ others_row (values ++ words) ∷ []
all_more rows values [] none = ap (λ (vs : List Text). rows ++ others_row vs ∷ []) (sym (append-nil values))
all_more rows values (word ∷ words) none =
    ap (λ (rs : List Row). gathered rs words) (one_more rows values word none) ∙ all_more rows (values ++ word ∷ []) words none
    ∙ ap (λ (vs : List Text). rows ++ others_row vs ∷ []) (append_assoc values (word ∷ []) words)

-- ---- the words go to the argument, for rules that have it

module _ (c : List Rule) (at : arg_by_index c 1 ≡ Some others) (by_id : arg_by_id c (codes "others") ≡ Some others) where
  pub next_word : (rows : List Row) (last word : Text) → walked c [] (behind rows last) word ≡ behind (with_values (codes "others") AsWritten CommandLine (last ∷ []) rows) word
  unfolding walked
  next_word rows last word = rw (at, by_id) refl

  pub settles : (rows : List Row) (last : Text) (words : List Text)
      → settled c (fold (walked c []) (behind rows last) words).held ≡ record { rows = gathered rows (last ∷ words); pending = None; skip = 0 }
  settles rows last [] = rw by_id refl
  settles rows last (word ∷ words) =
      ap (λ (w : Walk). settled c (fold (walked c []) w words).held) (next_word rows last word)
      ∙ settles (with_values (codes "others") AsWritten CommandLine (last ∷ []) rows) word words

  pub settle_holds : (again : Bool) (rows : List Row) (last : Text) (words : List Text) → settle_passes c again (fold (walked c []) (behind rows last) words).held ≡ true
  settle_holds again rows last [] = rw by_id refl
  settle_holds again rows last (word ∷ words) =
      ap (λ (w : Walk). settle_passes c again (fold (walked c []) w words).held) (next_word rows last word)
      ∙ settle_holds again (with_values (codes "others") AsWritten CommandLine (last ∷ []) rows) word words

-- and each word passes
pub words_pass : (s : Shape) → arg_by_index s.rules 1 ≡ Some others → arg_by_id s.rules (codes "others") ≡ Some others
    → (rows : List Row) (last : Text) (words : List Text) → walk_passes s [] (behind rows last) words ≡ true
unfolding walk_passes
words_pass s at by_id rows last [] = refl
words_pass s at by_id rows last (word ∷ words) =
    let turn : turn_passes s [] (behind rows last) word ≡ true = rw (at, by_id) refl in
    let rest : walk_passes s [] (walked s.rules [] (behind rows last) word) words ≡ true =
    ap (λ (w : Walk). walk_passes s [] w words) (next_word s.rules at by_id rows last word)
    ∙ words_pass s at by_id (with_values (codes "others") AsWritten CommandLine (last ∷ []) rows) word words in
    ap₂ (λ a b. a && b) turn rest
