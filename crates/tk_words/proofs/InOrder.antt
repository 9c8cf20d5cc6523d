-- The words of a line in order are the line.
use Rattle.std.proofs.Common.{◌≡◌, ◌∙◌, ◌==◌, ℕ, Bool, true, false, List, [], ◌∷◌, ◌++◌, Option, Some, None, refl, sym, ap, codes, drop, eqb-true}
use Rattle.std.proofs.lemmas.List.{append-nil, append_assoc}
use Rattle.clap.proofs.WalkLemmas.{both}
use Rattle.tk_words.specs.declared.line.Line.{Line}
use Rattle.tk_words.specs.declared.line.Name.{Name}
use Rattle.tk_words.specs.declared.line.Name.TheVariants.{Check, Decide, Simulate, Run, Generate}
use Rattle.tk_words.specs.declared.scan.Scan.{Scan}
use Rattle.tk_words.specs.Line.{finished, line_of, others_are_for, scanned, stands_alone, step}
use Rattle.tk_words.specs.Ordered.{fits_line, flag_words, name_text, ordered, root_words}

-- a scan behind `--`
abbrev plain_scan : Bool → Bool → Option (List ℕ) → List (List ℕ) → Scan
plain_scan json run root others = record { json = json; run = run; root = root; awaits = false; only_others = true; others = others }

-- each word behind `--` is one of the others
all_plain : (name : Name) (json run : Bool) (root : Option (List ℕ)) (seen words : List (List ℕ)) → others_are_for name ≡ true
    → scanned name (Some (plain_scan json run root seen)) words ≡ Some (plain_scan json run root (seen ++ words))
all_plain name json run root seen [] takes = ap (λ (ws : List (List ℕ)). Some (plain_scan json run root ws)) (sym (append-nil seen))
all_plain name json run root seen (word ∷ words) takes =
    let one : step name (plain_scan json run root seen) word ≡ Some (plain_scan json run root (seen ++ word ∷ [])) = rw takes refl in
    ap (λ (found : Option Scan). scanned name found words) one ∙ all_plain name json run root (seen ++ word ∷ []) words takes
    ∙ ap (λ (ws : List (List ℕ)). Some (plain_scan json run root ws)) (append_assoc seen (word ∷ []) words)

in_order : (name : Name) (json run : Bool) (root : Option (List ℕ)) (others : List (List ℕ))
    → fits_line (record { name = name; json = json; run = run; root = root; others = others }) ≡ true → stands_alone name ≡ false
    → line_of (name_text name ∷ flag_words json (codes "--json") ++ (flag_words run (codes "--run") ++ (root_words root ++ codes "--" ∷ others)))
    ≡ Some (record { name = name; json = json; run = run; root = root; others = others })
in_order Check json run root others fits more = cc
in_order Decide json run root others fits more = cc
in_order Simulate json true root others fits more = cc
in_order Simulate json false (Some folder) others fits more = cc
in_order Simulate json false None (word ∷ words) fits more = cc
in_order Simulate true false None [] fits more = refl
in_order Simulate false false None [] fits more = refl
in_order Run json true root others fits more = cc
in_order Run json false (Some []) others fits more = cc
in_order Run true false None others fits more = ap (finished Run) (all_plain Run true false None [] others refl)
in_order Run false false None others fits more = ap (finished Run) (all_plain Run false false None [] others refl)
in_order Run true false (Some (byte ∷ folder)) others fits more =
    let slash : byte ≡ 47 = eqb-true byte 47 (both (byte == 47) true fits).0 in
    rw slash (ap (finished Run) (all_plain Run true false (Some (47 ∷ folder)) [] others refl))
in_order Run false false (Some (byte ∷ folder)) others fits more =
    let slash : byte ≡ 47 = eqb-true byte 47 (both (byte == 47) true fits).0 in
    rw slash (ap (finished Run) (all_plain Run false false (Some (47 ∷ folder)) [] others refl))
in_order Generate true run root others fits more = cc
in_order Generate false run (Some folder) others fits more = cc
in_order Generate false true None others fits more = ap (finished Generate) (all_plain Generate false true None [] others refl)
in_order Generate false false None others fits more = ap (finished Generate) (all_plain Generate false false None [] others refl)

pub line_in_order : (line : Line) → fits_line line ≡ true → stands_alone line.name ≡ false → line_of (drop 1 (ordered line)) ≡ Some line
line_in_order line fits more = in_order line.name line.json line.run line.root line.others fits more
