-- What the lines of single commands say.
use Rattle.std.proofs.Common.{◌≡◌, ℕ, List, [], ◌∷◌, Option, Some, None, Bool, true, false, refl, sym, ap, ◌∙◌}
use Rattle.std.specs.Prelude.{bytes_eq, codes, option_and_then, if◌then◌else◌}
use Rattle.std.proofs.lemmas.Slice.Eq.{bytes_eq-Decides}
use Rattle.tk_words.specs.declared.line.Line.{Line}
use Rattle.tk_words.specs.declared.line.Name.{Name}
use Rattle.tk_words.specs.declared.line.Name.TheVariants.{Check, Decide, Simulate, Run, Generate}
use Rattle.tk_words.specs.declared.scan.Scan.{Scan}
use Rattle.tk_words.specs.Line.{finished, joined_root, json_behind, line_in, line_with, only_behind, scanned, start, starts_with, step, with_other, with_plain}

module _ {C : Type 0} (f : Line → Option C) (name : Name) (none : (line : Line) → line.name ≡ name → f line ≡ None) where
  ended : (b : Bool) (scan : Scan) → option_and_then f (if b then None else Some (line_in name scan)) ≡ None
  ended true scan = refl
  ended false scan = none (line_in name scan) refl

  none_finished : (o : Option Scan) → option_and_then f (finished name o) ≡ None
  none_finished None = refl
  none_finished (Some scan) = ended scan.awaits scan

-- a line of `run` or `generate` where it counts for nothing
pub no_run : {C : Type 0} (f : Line → Option C) → ((line : Line) → line.name ≡ Run → f line ≡ None) → (words : List (List ℕ)) → option_and_then f (line_with (Some Run) words) ≡ None
no_run f none words = none_finished f Run none (scanned Run (Some start) words)

pub no_generate : {C : Type 0} (f : Line → Option C) → ((line : Line) → line.name ≡ Generate → f line ≡ None) → (words : List (List ℕ)) → option_and_then f (line_with (Some Generate) words) ≡ None
no_generate f none words = none_finished f Generate none (scanned Generate (Some start) words)

-- a line of `check` or `decide`
abbrev pub if_alone : {C : Type 0} → Option C → List (List ℕ) → Option C
if_alone o [] = o
if_alone o (word ∷ words) = None

pub check_line : {C : Type 0} (f : Line → Option C) (o : Option C) → ((line : Line) → line.name ≡ Check → f line ≡ o) → (words : List (List ℕ)) → option_and_then f (line_with (Some Check) words) ≡ if_alone o words
check_line f o is [] = is (line_in Check start) refl
check_line f o is (word ∷ words) = refl

pub decide_line : {C : Type 0} (f : Line → Option C) (o : Option C) → ((line : Line) → line.name ≡ Decide → f line ≡ o) → (words : List (List ℕ)) → option_and_then f (line_with (Some Decide) words) ≡ if_alone o words
decide_line f o is [] = is (line_in Decide start) refl
decide_line f o is (word ∷ words) = refl

-- what the words of `simulate` said so far
abbrev said : Bool → Bool → Scan
said json only = record start { json = json; only_others = only }

-- a word that is none of its options
not_plain : (json b : Bool) (word : List ℕ) → (if b then None else with_plain Simulate (said json false) word) ≡ None
not_plain json true word = refl
not_plain json false word = refl

not_other : (json : Bool) (word : List ℕ) (folder : Option (List ℕ)) → with_other Simulate (said json false) word folder ≡ None
not_other json word (Some folder) = refl
not_other json word None = not_plain json (starts_with 45 word) word

not_root : (b : Bool) (o : Option Scan) → o ≡ None → (if b then None else o) ≡ None
not_root true o is = refl
not_root false o is = is

unknown : (json : Bool) (word : List ℕ)
    → (if bytes_eq word (codes "--run") then None else (if bytes_eq word (codes "--root") then None else with_other Simulate (said json false) word (joined_root word))) ≡ None
unknown json word = not_root (bytes_eq word (codes "--run")) _ (not_root (bytes_eq word (codes "--root")) _ (not_other json word (joined_root word)))

module _ {C : Type 0} (f : Line → Option C) (g : Bool → Option C) (same : (line : Line) → line.name ≡ Simulate → f line ≡ g line.json) where
  -- what the words of `simulate` come to from there
  abbrev found : Bool → Bool → List (List ℕ) → Option C
  found json only words = option_and_then f (finished Simulate (scanned Simulate (Some (said json only)) words))

  -- behind `--` it takes nothing
  behind : (json : Bool) (words : List (List ℕ)) → found json true words ≡ option_and_then g (only_behind words json)
  behind json [] = same (line_in Simulate (said json true)) refl
  behind json (word ∷ words) = refl

  -- once the first word is read
  from : (json : Bool) (word : List ℕ) (words : List (List ℕ)) (o : Option Scan) → step Simulate (said json false) word ≡ o
      → found json false (word ∷ words) ≡ option_and_then f (finished Simulate (scanned Simulate o words))
  from json word words o is = ap (λ (next : Option Scan). option_and_then f (finished Simulate (scanned Simulate next words))) is

  go : (json : Bool) (word : List ℕ) (words : List (List ℕ)) (d j : Bool) → bytes_eq word (codes "--") ≡ d → bytes_eq word (codes "--json") ≡ j
      → found true false words ≡ option_and_then g (json_behind true words) → found json false (word ∷ words) ≡ option_and_then g (json_behind json (word ∷ words))
  go json word words true true dash js rest =
      let own : word ≡ codes "--" = (bytes_eq-Decides word (codes "--")).0 dash in
      let not : bytes_eq word (codes "--json") ≡ false = ap (λ (w : List ℕ). bytes_eq w (codes "--json")) own in
      absurd (cc (js, not))
  go json word words true false dash js rest =
      let stepped : step Simulate (said json false) word ≡ Some (said json true) = rw dash refl in
      let says : json_behind json (word ∷ words) ≡ only_behind words json = rw (js, dash) refl in
      from json word words (Some (said json true)) stepped ∙ behind json words ∙ sym (ap (option_and_then g) says)
  go true word words false true dash js rest =
      let stepped : step Simulate (said true false) word ≡ None = rw (dash, js) refl in
      let says : json_behind true (word ∷ words) ≡ None = rw js refl in
      from true word words None stepped ∙ sym (ap (option_and_then g) says)
  go false word words false true dash js rest =
      let stepped : step Simulate (said false false) word ≡ Some (said true false) = rw (dash, js) refl in
      let says : json_behind false (word ∷ words) ≡ json_behind true words = rw js refl in
      from false word words (Some (said true false)) stepped ∙ rest ∙ sym (ap (option_and_then g) says)
  go json word words false false dash js rest =
      let stepped : step Simulate (said json false) word ≡ None = rw (dash, js) (unknown json word) in
      let says : json_behind json (word ∷ words) ≡ None = rw (js, dash) refl in
      from json word words None stepped ∙ sym (ap (option_and_then g) says)

  by_words : (json : Bool) (words : List (List ℕ)) → found json false words ≡ option_and_then g (json_behind json words)
  by_words json [] = same (line_in Simulate (said json false)) refl
  by_words json (word ∷ words) = go json word words (bytes_eq word (codes "--")) (bytes_eq word (codes "--json")) refl refl (by_words true words)

  -- a line of `simulate`
  pub simulate_line : (words : List (List ℕ)) → option_and_then f (line_with (Some Simulate) words) ≡ option_and_then g (json_behind false words)
  simulate_line words = by_words false words
