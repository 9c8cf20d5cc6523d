-- A line of the grammar has only what its command takes.
use Rattle.std.proofs.Common.{◌≡◌, ◌&&◌, ◌||◌, ℕ, not, Bool, true, false, List, [], ◌∷◌, ◌++◌, Option, Some, None, refl, ap, ap₂, subst, codes, is_some, cond}
use Rattle.std.specs.Prelude.{⊤}
use Rattle.std.specs.Str.{bytes_eq}
use Rattle.clap.proofs.WalkLemmas.{both}
use Rattle.tk_words.specs.declared.line.Line.{Line}
use Rattle.tk_words.specs.declared.line.Name.{Name}
use Rattle.tk_words.specs.declared.line.Name.TheVariants.{Check, Decide, Simulate, Run, Generate}
use Rattle.tk_words.specs.declared.scan.Scan.{Scan}
use Rattle.tk_words.specs.Line.{alone, finished, joined_root, json_is_for, line_in, line_of, line_with, name_of, others_are_for, root_is_for, run_is_for, scanned, stands_alone, start, starts_with, step, with_json, with_option, with_other, with_plain, with_root, with_run}
use Rattle.tk_words.specs.Ordered.{fits_line, is_empty, root_fits}

-- a scan has only what the command takes, and awaits a folder only where it takes one
record FitsScan (name : Name) (scan : Scan) : Type 0 where
  pub json : (json_is_for name || not scan.json) ≡ true
  pub run : (run_is_for name || not scan.run) ≡ true
  pub root : root_fits (root_is_for name) scan.root ≡ true
  pub awaits : (root_is_for name || not scan.awaits) ≡ true
  pub others : (others_are_for name || is_empty scan.others) ≡ true

abbrev Kept : Name → Option Scan → Type 0
Kept name None = ⊤
Kept name (Some scan) = FitsScan name scan

start_fits : (name : Name) → FitsScan name start
start_fits Check = record { json = refl; run = refl; root = refl; awaits = refl; others = refl }
start_fits Decide = record { json = refl; run = refl; root = refl; awaits = refl; others = refl }
start_fits Simulate = record { json = refl; run = refl; root = refl; awaits = refl; others = refl }
start_fits Run = record { json = refl; run = refl; root = refl; awaits = refl; others = refl }
start_fits Generate = record { json = refl; run = refl; root = refl; awaits = refl; others = refl }

-- what is kept in both cases is kept
kept_if : (name : Name) (b : Bool) (x y : Option Scan) → (b ≡ true → Kept name x) → (b ≡ false → Kept name y) → Kept name (cond b x y)
kept_if name true x y holds fails = holds refl
kept_if name false x y holds fails = fails refl

json_kept : (name : Name) (scan : Scan) → FitsScan name scan → Kept name (with_json name scan)
json_kept name scan fits = kept_if name (json_is_for name && not scan.json) (Some (record scan { json = true })) None
    (λ e. record { json = ap (λ (b : Bool). b || false) (both (json_is_for name) _ e).0; run = fits.run; root = fits.root; awaits = fits.awaits; others = fits.others })
    (λ e. tt)

run_kept : (name : Name) (scan : Scan) → FitsScan name scan → Kept name (with_run name scan)
run_kept name scan fits = kept_if name (run_is_for name && not scan.run) (Some (record scan { run = true })) None
    (λ e. record { json = fits.json; run = ap (λ (b : Bool). b || false) (both (run_is_for name) _ e).0; root = fits.root; awaits = fits.awaits; others = fits.others })
    (λ e. tt)

either_true : (b : Bool) → (b || true) ≡ true
either_true true = refl
either_true false = refl

root_kept : (name : Name) (scan : Scan) (folder : List ℕ) → root_is_for name ≡ true → FitsScan name scan → Kept name (with_root scan folder)
root_kept name scan folder takes fits = kept_if name (is_some scan.root) None (cond (starts_with 47 folder) (Some (record scan { root = Some folder; awaits = false })) None)
    (λ e. tt)
    (λ e. kept_if name (starts_with 47 folder) (Some (record scan { root = Some folder; awaits = false })) None
    (λ slash. record { json = fits.json; run = fits.run; root = ap₂ (λ (a b : Bool). a && b) takes slash; awaits = either_true (root_is_for name); others = fits.others })
    (λ none. tt))

plain_kept : (name : Name) (scan : Scan) (word : List ℕ) → FitsScan name scan → Kept name (with_plain name scan word)
plain_kept name scan word fits = kept_if name (others_are_for name) (Some (record scan { others = scan.others ++ word ∷ [] })) None
    (λ e. record { json = fits.json; run = fits.run; root = fits.root; awaits = fits.awaits; others = ap (λ (b : Bool). b || is_empty (scan.others ++ word ∷ [])) e })
    (λ e. tt)

other_kept : (name : Name) (scan : Scan) (word : List ℕ) (joined : Option (List ℕ)) → FitsScan name scan → Kept name (with_other name scan word joined)
other_kept name scan word (Some folder) fits = kept_if name (root_is_for name) (with_root scan folder) None (λ takes. root_kept name scan folder takes fits) (λ e. tt)
other_kept name scan word None fits = kept_if name (starts_with 45 word) None (with_plain name scan word) (λ e. tt) (λ e. plain_kept name scan word fits)

option_kept : (name : Name) (scan : Scan) (word : List ℕ) → FitsScan name scan → Kept name (with_option name scan word)
option_kept name scan word fits =
    kept_if name (bytes_eq word (codes "--")) (Some (record scan { only_others = true })) _
    (λ e. record { json = fits.json; run = fits.run; root = fits.root; awaits = fits.awaits; others = fits.others })
    (λ e. kept_if name (bytes_eq word (codes "--json")) (with_json name scan) _ (λ e. json_kept name scan fits)
    (λ e. kept_if name (bytes_eq word (codes "--run")) (with_run name scan) _ (λ e. run_kept name scan fits)
    (λ e. kept_if name (bytes_eq word (codes "--root")) (cond (root_is_for name) (Some (record scan { awaits = true })) None) (with_other name scan word (joined_root word))
    (λ e. kept_if name (root_is_for name) (Some (record scan { awaits = true })) None
    (λ takes. record { json = fits.json; run = fits.run; root = fits.root; awaits = ap (λ (b : Bool). b || false) takes; others = fits.others })
    (λ e. tt))
    (λ e. other_kept name scan word (joined_root word) fits))))

awaited : (b : Bool) (awaits : Bool) → (b || not awaits) ≡ true → awaits ≡ true → b ≡ true
awaited true awaits fits e = refl
awaited false true fits e = cc
awaited false false fits e = cc

step_kept : (name : Name) (scan : Scan) (word : List ℕ) → FitsScan name scan → Kept name (step name scan word)
step_kept name scan word fits = kept_if name scan.awaits (with_root scan word) (cond scan.only_others (with_plain name scan word) (with_option name scan word))
    (λ e. root_kept name scan word (awaited (root_is_for name) scan.awaits fits.awaits e) fits)
    (λ e. kept_if name scan.only_others (with_plain name scan word) (with_option name scan word)
    (λ e. plain_kept name scan word fits) (λ e. option_kept name scan word fits))

scanned_kept : (name : Name) (found : Option Scan) (words : List (List ℕ)) → Kept name found → Kept name (scanned name found words)
scanned_kept name None words kept = tt
scanned_kept name (Some scan) [] kept = kept
scanned_kept name (Some scan) (word ∷ words) kept = scanned_kept name (step name scan word) words (step_kept name scan word kept)

abbrev pub FitsIfSome : Option Line → Type 0
FitsIfSome None = ⊤
FitsIfSome (Some line) = fits_line line ≡ true

scan_line : (name : Name) (scan : Scan) → FitsScan name scan → fits_line (line_in name scan) ≡ true
scan_line name scan fits = ap₂ (λ (a b : Bool). a && b) fits.json (ap₂ (λ (a b : Bool). a && b) fits.run (ap₂ (λ (a b : Bool). a && b) fits.root fits.others))

finished_fits : (name : Name) (found : Option Scan) → Kept name found → FitsIfSome (finished name found)
finished_fits name None kept = tt
finished_fits name (Some scan) kept = go scan.awaits
  where
    go : (b : Bool) → FitsIfSome (cond b None (Some (line_in name scan)))
    go true = tt
    go false = scan_line name scan kept

alone_fits : (name : Name) (words : List (List ℕ)) → FitsIfSome (alone name words)
alone_fits name [] = scan_line name start (start_fits name)
alone_fits name (word ∷ words) = tt

named_fits : (named : Option Name) (words : List (List ℕ)) → FitsIfSome (line_with named words)
named_fits None words = tt
named_fits (Some name) words = go (stands_alone name)
  where
    go : (b : Bool) → FitsIfSome (cond b (alone name words) (finished name (scanned name (Some start) words)))
    go true = alone_fits name words
    go false = finished_fits name (scanned name (Some start) words) (scanned_kept name (Some start) words (start_fits name))

-- the line of words has only what its command takes
pub line_fits : (words : List (List ℕ)) → FitsIfSome (line_of words)
line_fits [] = tt
line_fits (word ∷ words) = named_fits (name_of word) words

pub some_line_fits : (words : List (List ℕ)) (line : Line) → line_of words ≡ Some line → fits_line line ≡ true
some_line_fits words line is = subst FitsIfSome is (line_fits words)
