-- What is read of a text so far.
use Rattle.std.proofs.Common.{◌≡◌, ℕ, zero, suc, ◌+◌, ◌-◌, ◌<◌, List, [], ◌∷◌, ◌++◌, length, drop, get_or, refl, sym, ◌∙◌, ap, subst, Bool, true, false, ◌&&◌, ◌||◌, not, inl, inr, arith, append_assoc, length-append}
use Rattle.std.specs.Prelude.{bytes_eq, nat_eq, ◌==◌, take_while}
use Rattle.std.specs.Str.{IsUtf8, IsCharBoundary}
use Rattle.std.proofs.lemmas.Str.{IsUtf8-drop, IsCharBoundary-after_ascii}
use Rattle.std.specs.List.{list_all, starts_with}
use Rattle.std.proofs.Math.Seq.{drop-append-add, drop-append_seam}
use Rattle.std.proofs.lemmas.Bool.{cases_lt, ne_eqb}
use Rattle.std.proofs.lemmas.List.{append-nil, get_or-drop}
use Rattle.tk_vars.specs.declared.piece.Piece.{Piece}
use Rattle.tk_vars.specs.declared.piece.Piece.TheVariants.{Plain, Ref}
use Rattle.tk_vars.specs.declared.reference.Reference.{Reference}
use Rattle.tk_vars.specs.Grammar.{must_stand, is_reference}
use Rattle.tk_vars.specs.Reading.{Reads, HasReading, IsBadOffset, ends_with_star, reference_at, with_byte, pieces_from, pieces_of}
use Rattle.tk_vars.specs.Steps.{in_reference, stands_first, IsFirstReference, IsSplitAt, plain_pieces}
use Rattle.tk_vars.proofs.TextFacts.{and_first, and_second, same_text}
use Rattle.tk_vars.proofs.ReferenceFacts.{SpellsReference, reference_spells}
use Rattle.tk_vars.proofs.OneReading.{at_plain, reference_step}
use Rattle.tk_vars.proofs.BadOffset.{prefix_and_rest, within_reference, inside_spelling, is_met, is_standing, met_stands, unmet_is_bad, reads_where_each_stands, no_bad_offset}
use Rattle.tk_vars.proofs.TailFacts.{never}

-- bytes in front of the pieces
abbrev pub with_bytes : List ℕ → List Piece → List Piece
with_bytes [] ps = ps
with_bytes (b ∷ bs) ps = with_byte b (with_bytes bs ps)

with_bytes-append : (xs ys : List ℕ) (ps : List Piece) → with_bytes (xs ++ ys) ps ≡ with_bytes xs (with_bytes ys ps)
with_bytes-append [] ys ps = refl
with_bytes-append (x ∷ xs) ys ps = ap (with_byte x) (with_bytes-append xs ys ps)

before_reference : (xs : List ℕ) (r : Reference) (ps : List Piece) → with_bytes xs (Ref r ∷ ps) ≡ plain_pieces xs ++ Ref r ∷ ps
before_reference [] r ps = refl
before_reference (x ∷ xs) r ps = ap (with_byte x) (before_reference xs r ps) ∙ joined xs
  where
    joined : (ys : List ℕ) → with_byte x (plain_pieces ys ++ Ref r ∷ ps) ≡ Plain (x ∷ ys) ∷ Ref r ∷ ps
    joined [] = refl
    joined (y ∷ ys) = refl

before_nothing : (xs : List ℕ) → with_bytes xs [] ≡ plain_pieces xs
before_nothing [] = refl
before_nothing (x ∷ xs) = ap (with_byte x) (before_nothing xs) ∙ joined xs
  where
    joined : (ys : List ℕ) → with_byte x (plain_pieces ys) ≡ Plain (x ∷ ys) ∷ []
    joined [] = refl
    joined (y ∷ ys) = refl

-- no reference must stand in this part of the text
abbrev pub Quiet : List ℕ → List ℕ → Type 0
Quiet part rest = (k : ℕ) → k < length part → must_stand (drop k (part ++ rest)) ≡ false

quiet_reading : (part rest : List ℕ) → Quiet part rest → pieces_from 0 (part ++ rest) ≡ with_bytes part (pieces_from 0 rest)
quiet_reading [] rest quiet = refl
quiet_reading (b ∷ bs) rest quiet = at_plain b (bs ++ rest) (quiet 0 (omega arith)) ∙ ap (with_byte b) (quiet_reading bs rest (λ k lt. quiet (suc k) (omega arith)))

abbrev pub no_dollar : List ℕ → Bool
no_dollar text = list_all (λ b. not (b == 36)) text

quiet_plain : (part rest : List ℕ) → no_dollar part ≡ true → Quiet part rest
quiet_plain part rest other = λ k lt. within_reference part rest k other lt

quiet_dollar : (part rest : List ℕ) → no_dollar part ≡ true → must_stand (36 ∷ rest) ≡ false → Quiet (part ++ 36 ∷ []) rest
quiet_dollar part rest other free = λ k lt.
    let text : (part ++ 36 ∷ []) ++ rest ≡ part ++ 36 ∷ rest = append_assoc part (36 ∷ []) rest in
    let long : length (part ++ 36 ∷ []) ≡ length part + 1 = length-append part (36 ∷ []) in
    ap (λ t. must_stand (drop k t)) text
    ∙ elim (cases_lt k (length part)) [
      | inl before ↦ within_reference part (36 ∷ rest) k other before
      | inr at ↦ let same : k ≡ length part = omega arith in ap (λ n. must_stand (drop n (part ++ 36 ∷ rest))) same ∙ (ap must_stand (drop-append_seam part (36 ∷ rest)) ∙ free)
    ]

-- the text is read up to this rest: the pieces that are done, plain bytes that are not yet a piece, and no bad offset
pub record IsScanned (text : List ℕ) (done : List Piece) (plain rest : List ℕ) : Type 0 where
  pub front : List ℕ
  pub text_is : text ≡ front ++ rest
  pub reading : pieces_of text ≡ done ++ with_bytes plain (pieces_from 0 rest)
  pub met : (o : ℕ) → o < length front → is_met text o ≡ true

pub scanned_nothing : (text : List ℕ) → IsScanned text [] [] text
scanned_nothing text = record { front = []; text_is = refl; reading = refl; met = λ o lt. absurd (omega arith) }

free_is_met : (text : List ℕ) (o : ℕ) → must_stand (drop o text) ≡ false → is_met text o ≡ true
free_is_met text o free = ap (λ due. not due || is_standing text o (reference_at (drop o text))) free

behind : (text front rest : List ℕ) (k : ℕ) → text ≡ front ++ rest → drop (length front + k) text ≡ drop k rest
behind text front rest k text_is = ap (drop (length front + k)) text_is ∙ drop-append-add front rest k

quiet_step : (text : List ℕ) (done : List Piece) (plain part rest : List ℕ) → IsScanned text done plain (part ++ rest) → Quiet part rest → IsScanned text done (plain ++ part) rest
quiet_step text done plain part rest scanned quiet =
    record {
      front = scanned.front ++ part;
      text_is = scanned.text_is ∙ sym (append_assoc scanned.front part rest);
      reading = scanned.reading ∙ ap (λ ps. done ++ ps) (ap (with_bytes plain) (quiet_reading part rest quiet) ∙ sym (with_bytes-append plain part (pieces_from 0 rest)));
      met = λ o lt.
          elim (cases_lt o (length scanned.front)) [
            | inl before ↦ scanned.met o before
            | inr later ↦
                let k : ℕ = o - length scanned.front in
                let at : length scanned.front + k ≡ o = omega arith in
                let long : length (scanned.front ++ part) ≡ length scanned.front + length part = length-append scanned.front part in
                free_is_met text o (ap (λ n. must_stand (drop n text)) (sym at) ∙ (ap must_stand (behind text scanned.front (part ++ rest) k scanned.text_is) ∙ quiet k (omega arith)))
          ];
    }

-- up to a `$`, and past one that stays
up_to_dollar : (text : List ℕ) (done : List Piece) (plain rest part after : List ℕ) → IsScanned text done plain rest → IsSplitAt 36 rest part after → IsScanned text done (plain ++ part) (36 ∷ after)
up_to_dollar text done plain rest part after scanned split =
    quiet_step text done plain part (36 ∷ after) (subst (IsScanned text done plain) split.text_is scanned) (quiet_plain part (36 ∷ after) split.other)

pub past_dollar : (text : List ℕ) (done : List Piece) (plain rest part after : List ℕ) → IsScanned text done plain rest → IsSplitAt 36 rest part after → must_stand (36 ∷ after) ≡ false
    → IsScanned text done ((plain ++ part) ++ 36 ∷ []) after
past_dollar text done plain rest part after scanned split free =
    subst (λ p. IsScanned text done p after) (sym (append_assoc plain part (36 ∷ [])))
    (quiet_step text done plain (part ++ 36 ∷ []) after (subst (IsScanned text done plain) (split.text_is ∙ sym (append_assoc part (36 ∷ []) after)) scanned) (quiet_dollar part after split.other free))

-- the same where the plain bytes are the front of a part of the text that ends with the rest
pub record IsScannedTo (text : List ℕ) (done : List Piece) (from rest : List ℕ) : Type 0 where
  pub plain : List ℕ
  pub from_is : from ≡ plain ++ rest
  pub scanned : IsScanned text done plain rest

pub nothing_scanned : (text : List ℕ) → IsScannedTo text [] text text
nothing_scanned text = record { plain = []; from_is = refl; scanned = scanned_nothing text }

-- past a `$` that stays
pub to_after : (text : List ℕ) (done : List Piece) (from rest part after : List ℕ) → IsScannedTo text done from rest → IsSplitAt 36 rest part after → must_stand (36 ∷ after) ≡ false → IsScannedTo text done from after
to_after text done from rest part after to split free =
    record {
      plain = (to.plain ++ part) ++ 36 ∷ [];
      from_is = to.from_is ∙ (ap (λ t. to.plain ++ t) split.text_is ∙ (sym (append_assoc to.plain part (36 ∷ after)) ∙ sym (append_assoc (to.plain ++ part) (36 ∷ []) after)));
      scanned = past_dollar text done to.plain rest part after to.scanned split free;
    }

-- the plain bytes in front of a `$`
pub plain_before : (text : List ℕ) (done : List Piece) (from rest part after : List ℕ) (to : IsScannedTo text done from rest) → IsSplitAt 36 rest part after → from ≡ (to.plain ++ part) ++ 36 ∷ after
plain_before text done from rest part after to split = to.from_is ∙ (ap (λ t. to.plain ++ t) split.text_is ∙ sym (append_assoc to.plain part (36 ∷ after)))

-- whether a reference stands, said of the whole text and of what follows

abbrev standing_in : List ℕ → List ℕ → Bool
standing_in text t =
    let r = reference_at t in
    (starts_with nat_eq t r.spelling && is_reference r) && (not (ends_with_star r.parts) || bytes_eq r.spelling text)

whole_or_not : (text front s spelling : List ℕ) → text ≡ front ++ s → starts_with nat_eq s spelling ≡ true → bytes_eq spelling text ≡ ((length front == 0) && bytes_eq spelling s)
whole_or_not text [] s spelling text_is there = ap (bytes_eq spelling) text_is
whole_or_not text (f ∷ fs) s spelling text_is there =
    let front_len : (length (f ∷ fs) == 0) ≡ false = ne_eqb (length (f ∷ fs)) 0 (λ e. omega arith) in
    let short : bytes_eq spelling text ≡ false = never (bytes_eq spelling text) bad in
    short ∙ sym (ap (λ t. t && bytes_eq spelling s) front_len)
  where
    bad : bytes_eq spelling text ≡ true → ⊥
    bad e =
        let same : length spelling ≡ length text = ap length (same_text spelling text e) in
        let whole : length text ≡ length (f ∷ fs) + length s = ap length text_is ∙ length-append (f ∷ fs) s in
        let begun : length s ≡ length spelling + length (drop (length spelling) s) = ap length (prefix_and_rest spelling s there) ∙ length-append spelling (drop (length spelling) s) in
        absurd (omega arith)

standing_first : (text front s : List ℕ) → text ≡ front ++ s → standing_in text s ≡ stands_first (length front == 0) s
standing_first text front s text_is = by_test (starts_with nat_eq s (reference_at s).spelling) refl
  where
    r : Reference
    r = reference_at s

    by_test : (there : Bool) → starts_with nat_eq s r.spelling ≡ there
        → ((there && is_reference r) && (not (ends_with_star r.parts) || bytes_eq r.spelling text)) ≡ ((there && is_reference r) && (not (ends_with_star r.parts) || ((length front == 0) && bytes_eq r.spelling s)))
    by_test false e = refl
    by_test true e = ap (λ t. is_reference r && (not (ends_with_star r.parts) || t)) (whole_or_not text front s r.spelling text_is e)

at_front : (text front s : List ℕ) → text ≡ front ++ s → is_met text (length front) ≡ (not (must_stand s) || stands_first (length front == 0) s)
at_front text front s text_is =
    let there : drop (length front) text ≡ s = ap (drop (length front)) text_is ∙ drop-append_seam front s in
    ap (λ t. not (must_stand t) || standing_in text t) there ∙ ap (λ t. not (must_stand s) || t) (standing_first text front s text_is)

offset_is : (text front after : List ℕ) (offset : ℕ) → text ≡ front ++ 36 ∷ after → offset ≡ length text - length after - 1 → offset ≡ length front
offset_is text front after offset text_is e = let whole : length text ≡ length front + suc (length after) = ap length text_is ∙ length-append front (36 ∷ after) in omega arith

-- where a reference must stand and none does, the offset is bad
pub bad_here : (text : List ℕ) (done : List Piece) (plain rest part after : List ℕ) (offset : ℕ) → IsScanned text done plain rest → IsSplitAt 36 rest part after
    → offset ≡ length text - length after - 1 → must_stand (36 ∷ after) ≡ true → stands_first (offset == 0) (36 ∷ after) ≡ false → IsBadOffset text offset
bad_here text done plain rest part after offset scanned_before split e due none =
    let scanned : IsScanned text done (plain ++ part) (36 ∷ after) = up_to_dollar text done plain rest part after scanned_before split in
    let at : offset ≡ length scanned.front = offset_is text scanned.front after offset scanned.text_is e in
    let unmet : is_met text (length scanned.front) ≡ false =
    at_front text scanned.front (36 ∷ after) scanned.text_is
    ∙ (ap (λ t. not t || stands_first (length scanned.front == 0) (36 ∷ after)) due ∙ (ap (λ n. stands_first (n == 0) (36 ∷ after)) (sym at) ∙ none)) in
    subst (IsBadOffset text) (sym at) (unmet_is_bad text (length scanned.front) unmet scanned.met)

-- a reference that stands is read
reference_read : (text : List ℕ) (done : List Piece) (plain after : List ℕ) (reference : Reference) (rest : List ℕ) (offset : ℕ) → IsScanned text done plain (36 ∷ after)
    → offset ≡ length text - length after - 1 → IsFirstReference (offset == 0) (36 ∷ after) reference rest → IsScanned text ((done ++ plain_pieces plain) ++ Ref reference ∷ []) [] rest
reference_read text done plain after reference rest offset scanned e first =
    record {
      front = scanned.front ++ reference.spelling;
      text_is = text_is ∙ sym (append_assoc scanned.front reference.spelling rest);
      reading = scanned.reading
          ∙ (ap (λ t. done ++ with_bytes plain (pieces_from 0 t)) first.text_is
          ∙ (ap (λ ps. done ++ with_bytes plain ps) (reference_step reference.parts reference.spelling rest spells)
          ∙ (ap (λ ps. done ++ ps) (before_reference plain reference (pieces_from 0 rest))
          ∙ (sym (append_assoc done (plain_pieces plain) (Ref reference ∷ pieces_from 0 rest)) ∙ sym (append_assoc (done ++ plain_pieces plain) (Ref reference ∷ []) (pieces_from 0 rest))))));
      met = met;
    }
  where
    s : List ℕ
    s = 36 ∷ after

    s_is : s ≡ reference.spelling ++ rest
    s_is = first.text_is

    at : offset ≡ length scanned.front
    at = offset_is text scanned.front after offset scanned.text_is e

    text_is : text ≡ scanned.front ++ (reference.spelling ++ rest)
    text_is = scanned.text_is ∙ ap (λ t. scanned.front ++ t) s_is

    ok : is_reference reference ≡ true
    ok =
        ap is_reference first.first_is
        ∙ and_second (starts_with nat_eq s (reference_at s).spelling) (is_reference (reference_at s))
        (and_first (starts_with nat_eq s (reference_at s).spelling && is_reference (reference_at s)) (not (ends_with_star (reference_at s).parts) || ((offset == 0) && bytes_eq (reference_at s).spelling s)) first.stands)

    spells : SpellsReference reference.parts reference.spelling
    spells = reference_spells reference ok

    here : is_met text (length scanned.front) ≡ true
    here = at_front text scanned.front s scanned.text_is ∙ (ap (λ t. not (must_stand s) || t) (ap (λ n. stands_first (n == 0) s) (sym at) ∙ first.stands) ∙ or_true (not (must_stand s)))
      where
        or_true : (a : Bool) → (a || true) ≡ true
        or_true true = refl
        or_true false = refl

    inside : (k : ℕ) → k < length reference.spelling → is_met text (length scanned.front + k) ≡ true
    inside zero lt = let same : length scanned.front ≡ length scanned.front + 0 = omega arith in ap (is_met text) (sym same) ∙ here
    inside (suc k) lt =
        free_is_met text (length scanned.front + suc k)
        (ap must_stand (behind text scanned.front (reference.spelling ++ rest) (suc k) text_is) ∙ inside_spelling reference.spelling spells.begins.0 rest k spells.begins.1 spells.begins.2 lt)

    met : (o : ℕ) → o < length (scanned.front ++ reference.spelling) → is_met text o ≡ true
    met o lt =
        elim (cases_lt o (length scanned.front)) [
          | inl before ↦ scanned.met o before
          | inr later ↦
              let k : ℕ = o - length scanned.front in
              let place : length scanned.front + k ≡ o = omega arith in
              let long : length (scanned.front ++ reference.spelling) ≡ length scanned.front + length reference.spelling = length-append scanned.front reference.spelling in
              ap (is_met text) (sym place) ∙ inside k (omega arith)
        ]

pub past_reference : (text : List ℕ) (done : List Piece) (plain rest part after : List ℕ) (reference : Reference) (behind_it : List ℕ) (offset : ℕ) → IsScanned text done plain rest → IsSplitAt 36 rest part after
    → offset ≡ length text - length after - 1 → IsFirstReference (offset == 0) (36 ∷ after) reference behind_it → IsScanned text ((done ++ plain_pieces (plain ++ part)) ++ Ref reference ∷ []) [] behind_it
past_reference text done plain rest part after reference behind_it offset scanned split e first =
    reference_read text done (plain ++ part) after reference behind_it offset (up_to_dollar text done plain rest part after scanned split) e first

-- the whole text is read

pub record IsAllScanned (text : List ℕ) (pieces : List Piece) : Type 0 where
  pub reading : Reads text (pieces_of text)
  pub only : pieces ≡ pieces_of text

pub at_end : (text : List ℕ) (done : List Piece) (plain rest : List ℕ) → IsScanned text done plain rest → no_dollar rest ≡ true → IsAllScanned text (done ++ plain_pieces (plain ++ rest))
at_end text done plain rest scanned other =
    let last : IsScanned text done (plain ++ rest) [] = quiet_step text done plain rest [] (subst (IsScanned text done plain) (sym (append-nil rest)) scanned) (quiet_plain rest [] other) in
    let all : length last.front ≡ length text = sym (ap length (last.text_is ∙ append-nil last.front)) in
    let reads : Reads text (pieces_of text) = reads_where_each_stands text (λ o lt due. met_stands text o (last.met o (omega arith)) due) in
    let only : done ++ plain_pieces (plain ++ rest) ≡ pieces_of text = sym (last.reading ∙ ap (λ ps. done ++ ps) (before_nothing (plain ++ rest))) in
    record { reading = reads; only = only }

-- what follows an ASCII byte of a text is a text
pub text_after : (byte : ℕ) (text front rest : List ℕ) → byte < 128 → IsUtf8 text → text ≡ front ++ byte ∷ rest → IsUtf8 rest
text_after byte text front rest low utf8 text_is =
    let long : length text ≡ length front + suc (length rest) = ap length text_is ∙ length-append front (byte ∷ rest) in
    let there : drop (length front) text ≡ byte ∷ rest = ap (drop (length front)) text_is ∙ drop-append_seam front (byte ∷ rest) in
    let place : length front ≡ length front + 0 = omega arith in
    let here : get_or text (length front) 0 ≡ byte = ap (λ n. get_or text n 0) place ∙ (sym (get_or-drop (length front) text 0 0) ∙ ap (λ (t : List ℕ). get_or t 0 0) there) in
    let ascii : get_or text (length front) 0 < 128 = subst (λ b. b < 128) (sym here) low in
    let cut : IsCharBoundary text (length front + 1) = IsCharBoundary-after_ascii text (length front) utf8 (omega arith) ascii in
    let behind_it : drop (length front + 1) text ≡ rest = behind text front (byte ∷ rest) 1 text_is in
    subst IsUtf8 behind_it (IsUtf8-drop text (length front + 1) utf8 cut)

pub text_behind : (is_first : Bool) (after : List ℕ) (reference : Reference) (rest : List ℕ) → IsUtf8 after → IsFirstReference is_first (36 ∷ after) reference rest → IsUtf8 rest
text_behind is_first after reference rest utf8 first =
    let inner : List ℕ = take_while in_reference (drop 1 after) in
    let text : 36 ∷ after ≡ 36 ∷ ((40 ∷ inner ++ 41 ∷ []) ++ rest) = first.text_is ∙ ap (λ (r : Reference). r.spelling ++ rest) first.first_is in
    let behind_dollar : after ≡ (40 ∷ inner) ++ 41 ∷ rest = ap (drop 1) text ∙ append_assoc (40 ∷ inner) (41 ∷ []) rest in
    text_after 41 after (40 ∷ inner) rest (omega arith) utf8 behind_dollar

-- the answers

pub refused_text : (text : List ℕ) (offset : ℕ) → IsBadOffset text offset → HasReading text → ⊥
refused_text text offset bad reading = no_bad_offset text (pieces_of text) offset reading bad
