-- A text has at most one reading.
use Rattle.std.proofs.Common.{◌≡◌, ℕ, ◌-◌, List, [], ◌∷◌, ◌++◌, length, refl, sym, ◌∙◌, ap, Bool, true, false, ◌||◌, not, arith}
use Rattle.std.specs.Prelude.{flat_map}
use Rattle.std.specs.List.{list_all}
use Rattle.tk_vars.specs.declared.part.Part.{Part}
use Rattle.tk_vars.specs.declared.reference.Reference.{Reference}
use Rattle.tk_vars.specs.declared.piece.Piece.{Piece}
use Rattle.tk_vars.specs.declared.piece.Piece.TheVariants.{Plain, Ref}
use Rattle.tk_vars.specs.Grammar.{must_stand, is_reference}
use Rattle.tk_vars.specs.Reading.{Reads, spelling_of, must_stand_within, is_piece, plain_apart, reference_at, with_byte, pieces_from, pieces_of}
use Rattle.tk_vars.proofs.TextFacts.{and_first, and_second}
use Rattle.tk_vars.proofs.ReferenceFacts.{SpellsReference, reference_spells, is_front, must_stand-append}

-- what stands before is passed over
pub skipped : (xs ys : List ℕ) → pieces_from (length xs) (xs ++ ys) ≡ pieces_from 0 ys
skipped [] ys = refl
skipped (x ∷ xs) ys = skipped xs ys

-- the pieces of a text at whose head a reference must stand, and of one at whose head none must

abbrev pub at_head : ℕ → List ℕ → Bool → List Piece
at_head b bs due =
    elim due [
      | true ↦ let reference = reference_at (b ∷ bs) in Ref reference ∷ pieces_from (length reference.spelling - 1) bs
      | false ↦ with_byte b (pieces_from 0 bs)
    ]

pub at_reference : (b : ℕ) (bs : List ℕ) → must_stand (b ∷ bs) ≡ true → pieces_from 0 (b ∷ bs) ≡ at_head b bs true
at_reference b bs due = ap (at_head b bs) due

pub at_plain : (b : ℕ) (bs : List ℕ) → must_stand (b ∷ bs) ≡ false → pieces_from 0 (b ∷ bs) ≡ with_byte b (pieces_from 0 bs)
at_plain b bs due = ap (at_head b bs) due

-- a reference is read, and then what follows it
pub reference_step : (parts : List Part) (s rest : List ℕ) → SpellsReference parts s → pieces_from 0 (s ++ rest) ≡ Ref (record { spelling = s; parts = parts }) ∷ pieces_from 0 rest
reference_step parts [] rest spells = let e : [] ≡ 36 ∷ spells.begins.0 = spells.begins.1 in cc
reference_step parts (b ∷ bs) rest spells =
    let taken : Reference → List Piece = λ reference. Ref reference ∷ pieces_from (length reference.spelling - 1) (bs ++ rest) in
    at_reference b (bs ++ rest) (spells.due rest)
    ∙ (ap taken (spells.found rest) ∙ ap (λ ps. Ref (record { spelling = b ∷ bs; parts = parts }) ∷ ps) (ap (λ n. pieces_from n (bs ++ rest)) (omega arith) ∙ skipped bs rest))

-- no plain piece stands first
abbrev pub no_plain : List Piece → Bool
no_plain (Plain word ∷ ps) = false
no_plain ps = true

pub none_due : (b : ℕ) (bs : List ℕ) → must_stand_within (b ∷ bs) ≡ false → must_stand (b ∷ bs) ≡ false
none_due b bs e = first (must_stand (b ∷ bs)) (must_stand_within bs) e
  where
    first : (x y : Bool) → (x || y) ≡ false → x ≡ false
    first true y e = e
    first false y e = refl

pub none_due_later : (b : ℕ) (bs : List ℕ) → must_stand_within (b ∷ bs) ≡ false → must_stand_within bs ≡ false
none_due_later b bs e = second (must_stand (b ∷ bs)) (must_stand_within bs) e
  where
    second : (x y : Bool) → (x || y) ≡ false → y ≡ false
    second true y e = cc
    second false y e = e

new_plain : (b : ℕ) (ps : List Piece) → no_plain ps ≡ true → with_byte b ps ≡ Plain (b ∷ []) ∷ ps
new_plain b [] e = refl
new_plain b (Plain word ∷ ps) e = cc
new_plain b (Ref reference ∷ ps) e = refl

-- a plain piece is read whole
plain_step : (b : ℕ) (bs rest : List ℕ) (ps : List Piece) → must_stand_within (b ∷ bs) ≡ false → is_front rest ≡ true → no_plain ps ≡ true
    → pieces_from 0 rest ≡ ps → pieces_from 0 (b ∷ bs ++ rest) ≡ Plain (b ∷ bs) ∷ ps
plain_step b [] rest ps none front apart rest_is =
    at_plain b rest (must_stand-append b [] rest front ∙ none_due b [] none) ∙ (ap (with_byte b) rest_is ∙ new_plain b ps apart)
plain_step b (c ∷ cs) rest ps none front apart rest_is =
    at_plain b (c ∷ cs ++ rest) (must_stand-append b (c ∷ cs) rest front ∙ none_due b (c ∷ cs) none)
    ∙ ap (with_byte b) (plain_step c cs rest ps (none_due_later b (c ∷ cs) none) front apart rest_is)

pub refused : (r : Bool) → not r ≡ true → r ≡ false
refused true e = sym e
refused false e = refl

-- a reference of the table begins with `$`
pub front_of_reference : (reference : Reference) (rest : List ℕ) → is_reference reference ≡ true → is_front (reference.spelling ++ rest) ≡ true
front_of_reference reference rest ok =
    ap (λ (s : List ℕ). is_front (s ++ rest)) (reference_spells reference ok).begins.1

-- pieces that make a text are the pieces that are read of it
pieces_of_spelling : (pieces : List Piece) → list_all is_piece pieces ≡ true → plain_apart pieces ≡ true → pieces_from 0 (flat_map spelling_of pieces) ≡ pieces
pieces_of_spelling [] allowed apart = refl
pieces_of_spelling (Ref reference ∷ ps) allowed apart =
    reference_step reference.parts reference.spelling (flat_map spelling_of ps) (reference_spells reference (and_first (is_reference reference) (list_all is_piece ps) allowed))
    ∙ ap (λ qs. Ref reference ∷ qs) (pieces_of_spelling ps (and_second (is_reference reference) (list_all is_piece ps) allowed) apart)
pieces_of_spelling (Plain [] ∷ ps) allowed apart = cc
pieces_of_spelling (Plain (b ∷ bs) ∷ []) allowed apart =
    plain_step b bs [] [] (refused (must_stand_within (b ∷ bs)) (and_first (not (must_stand_within (b ∷ bs))) true allowed)) refl refl refl
pieces_of_spelling (Plain (b ∷ bs) ∷ Plain word ∷ ps) allowed apart = cc
pieces_of_spelling (Plain (b ∷ bs) ∷ Ref reference ∷ ps) allowed apart =
    let rest_allowed : list_all is_piece (Ref reference ∷ ps) ≡ true = and_second (not (must_stand_within (b ∷ bs))) (list_all is_piece (Ref reference ∷ ps)) allowed in
    plain_step b bs (flat_map spelling_of (Ref reference ∷ ps)) (Ref reference ∷ ps) (refused (must_stand_within (b ∷ bs)) (and_first (not (must_stand_within (b ∷ bs))) (list_all is_piece (Ref reference ∷ ps)) allowed))
    (front_of_reference reference (flat_map spelling_of ps) (and_first (is_reference reference) (list_all is_piece ps) rest_allowed)) refl
    (pieces_of_spelling (Ref reference ∷ ps) rest_allowed apart)

-- a text has at most one reading, and `pieces_of` finds it
pub reading_is_pieces_of : (text : List ℕ) (pieces : List Piece) → Reads text pieces → pieces ≡ pieces_of text
reading_is_pieces_of text pieces reads = sym (ap (pieces_from 0) (sym reads.joined) ∙ pieces_of_spelling pieces reads.allowed reads.apart)

pub one_reading : (text : List ℕ) (ps qs : List Piece) → Reads text ps → Reads text qs → ps ≡ qs
one_reading text ps qs first second = reading_is_pieces_of text ps first ∙ sym (reading_is_pieces_of text qs second)
