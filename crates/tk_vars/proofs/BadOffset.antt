-- A text has a bad offset exactly where it has no reading.
use Rattle.std.proofs.Common.{◌≡◌, ℕ, zero, suc, ◌+◌, ◌-◌, ◌<◌, ◌≤◌, List, [], ◌∷◌, ◌++◌, length, drop, refl, sym, ◌∙◌, ap, subst, Bool, true, false, ◌&&◌, ◌||◌, not, inl, inr, ◌⊎◌, arith, append_assoc, length-append}
use Rattle.std.specs.Prelude.{◌==◌, IsTrue, nat_le, bytes_eq, flat_map, codes, nat_eq}
use Rattle.std.specs.List.{list_all, list_any, starts_with}
use Rattle.std.proofs.Math.Seq.{drop-append-add, drop-append_seam}
use Rattle.std.proofs.lemmas.List.{append-nil}
use Rattle.std.proofs.lemmas.Bool.{eqb-true, eq-eqb, leb-true, cases_lt}
use Rattle.std.proofs.lemmas.Slice.Eq.{bytes_eq-Decides}
use Rattle.tk_vars.specs.declared.reference.Reference.{Reference}
use Rattle.tk_vars.specs.declared.piece.Piece.{Piece}
use Rattle.tk_vars.specs.declared.piece.Piece.TheVariants.{Plain, Ref}
use Rattle.tk_vars.specs.Grammar.{must_stand, is_reference}
use Rattle.tk_vars.specs.Reading.{Reads, StandsAt, IsBadOffset, spelling_of, must_stand_within, is_piece, plain_apart, ends_with_star, is_star, star_alone, reference_at, with_byte, pieces_from, pieces_of}
use Rattle.tk_vars.proofs.TextFacts.{and_first, and_second, same_text}
use Rattle.tk_vars.proofs.ReferenceFacts.{SpellsReference, reference_spells, is_front, must_stand-append}
use Rattle.tk_vars.proofs.OneReading.{at_plain, reference_step, refused, no_plain, none_due, none_due_later, front_of_reference}

-- a text that begins with another is that one and a rest
pub prefix_and_rest : (needle xs : List ℕ) → starts_with nat_eq xs needle ≡ true → xs ≡ needle ++ drop (length needle) xs
prefix_and_rest [] xs e = refl
prefix_and_rest (n ∷ ns) [] e = cc
prefix_and_rest (n ∷ ns) (x ∷ xs) e =
    let same : n ≡ x = eqb-true n x (and_first (nat_eq n x) (starts_with nat_eq xs ns) e) in
    λ i. sym same i ∷ prefix_and_rest ns xs (and_second (nat_eq n x) (starts_with nat_eq xs ns) e) i

-- the only reference that can stand at an offset
pub stands_is : (text : List ℕ) (offset : ℕ) (reference : Reference) → StandsAt text offset reference → reference_at (drop offset text) ≡ reference
stands_is text offset reference stands =
    ap reference_at (prefix_and_rest reference.spelling (drop offset text) stands.there)
    ∙ (reference_spells reference stands.allowed).found (drop (length reference.spelling) (drop offset text))

no_path : false ≡ true → ⊥
no_path e = cc

-- `[*]` that isn't the whole text is bad where it stands
behind_a_dash : IsBadOffset (codes "-$(params.x[*])") 1
behind_a_dash = record { due = refl; none = none; least = least }
  where
    none : (reference : Reference) → ¬ StandsAt (codes "-$(params.x[*])") 1 reference
    none reference stands =
        let e : reference_at (codes "$(params.x[*])") ≡ reference = stands_is (codes "-$(params.x[*])") 1 reference stands in
        let whole : (reference_at (codes "$(params.x[*])")).spelling ≡ codes "-$(params.x[*])" =
        ap (λ (r : Reference). r.spelling) e ∙ stands.alone (ap (λ (r : Reference). ends_with_star r.parts) (sym e)) in
        no_path (ap (λ (t : List ℕ). bytes_eq t (codes "-$(params.x[*])")) whole)

    least : (o : ℕ) → o < 1 → IsTrue (must_stand (drop o (codes "-$(params.x[*])"))) → (reference : Reference) × StandsAt (codes "-$(params.x[*])") o reference
    least zero lt due = absurd (no_path due)
    least (suc o) lt due = absurd (omega arith)

-- a text at each of whose due offsets a reference stands is read whole

-- a reference of the table stands at the head of the text, `[*]` or not
abbrev Begins : List ℕ → Type 0
Begins text = (reference : Reference) × (starts_with nat_eq text reference.spelling ≡ true) × (is_reference reference ≡ true)

abbrev EachBegins : List ℕ → Type 0
EachBegins text = (k : ℕ) → k < length text → must_stand (drop k text) ≡ true → Begins (drop k text)

record IsSound (text : List ℕ) (ps : List Piece) : Type 0 where
  joined : flat_map spelling_of ps ≡ text
  allowed : list_all is_piece ps ≡ true
  apart : plain_apart ps ≡ true

both : (a b : Bool) → a ≡ true → b ≡ true → (a && b) ≡ true
both a b x y = rw (x, y) refl

neither : (a b : Bool) → a ≡ false → b ≡ false → not (a || b) ≡ true
neither a b x y = rw (x, y) refl

-- what follows a plain piece begins with `$`, or is nothing
front_of_pieces : (ps : List Piece) → list_all is_piece ps ≡ true → no_plain ps ≡ true → is_front (flat_map spelling_of ps) ≡ true
front_of_pieces [] allowed first = refl
front_of_pieces (Plain word ∷ ps) allowed first = cc
front_of_pieces (Ref reference ∷ ps) allowed first = front_of_reference reference (flat_map spelling_of ps) (and_first (is_reference reference) (list_all is_piece ps) allowed)

no_plain_behind : (word : List ℕ) (ps : List Piece) → plain_apart (Plain word ∷ ps) ≡ true → no_plain ps ≡ true
no_plain_behind word [] apart = refl
no_plain_behind word (Plain w ∷ ps) apart = cc
no_plain_behind word (Ref reference ∷ ps) apart = refl

apart_behind : (word : List ℕ) (ps : List Piece) → no_plain ps ≡ true → plain_apart ps ≡ true → plain_apart (Plain word ∷ ps) ≡ true
apart_behind word [] first apart = refl
apart_behind word (Plain w ∷ ps) first apart = cc
apart_behind word (Ref reference ∷ ps) first apart = apart

tail_apart : (word : List ℕ) (ps : List Piece) → plain_apart (Plain word ∷ ps) ≡ true → plain_apart ps ≡ true
tail_apart word [] apart = refl
tail_apart word (Plain w ∷ ps) apart = cc
tail_apart word (Ref reference ∷ ps) apart = apart

-- one more plain byte
more_plain : (b : ℕ) (bs : List ℕ) (ps : List Piece) → must_stand (b ∷ bs) ≡ false → IsSound bs ps → IsSound (b ∷ bs) (with_byte b ps)
more_plain b bs [] due sound =
    let e : must_stand (b ∷ []) ≡ false = subst (λ (t : List ℕ). must_stand (b ∷ t) ≡ false) (sym sound.joined) due in
    record { joined = ap (λ t. b ∷ t) sound.joined; allowed = both _ true (neither (must_stand (b ∷ [])) false e refl) refl; apart = refl }
more_plain b bs (Ref reference ∷ ps) due sound =
    let front : is_front (flat_map spelling_of (Ref reference ∷ ps)) ≡ true = front_of_pieces (Ref reference ∷ ps) sound.allowed refl in
    let e : must_stand (b ∷ []) ≡ false = sym (must_stand-append b [] (flat_map spelling_of (Ref reference ∷ ps)) front) ∙ (ap (λ (t : List ℕ). must_stand (b ∷ t)) sound.joined ∙ due) in
    record { joined = ap (λ t. b ∷ t) sound.joined; allowed = both _ _ (neither (must_stand (b ∷ [])) false e refl) sound.allowed; apart = sound.apart }
more_plain b bs (Plain [] ∷ ps) due sound = let e : false ≡ true = sound.allowed in cc
more_plain b bs (Plain (c ∷ cs) ∷ ps) due sound =
    let rest_allowed : list_all is_piece ps ≡ true = and_second (not (must_stand_within (c ∷ cs))) (list_all is_piece ps) sound.allowed in
    let within : must_stand_within (c ∷ cs) ≡ false = refused (must_stand_within (c ∷ cs)) (and_first (not (must_stand_within (c ∷ cs))) (list_all is_piece ps) sound.allowed) in
    let first : no_plain ps ≡ true = no_plain_behind (c ∷ cs) ps sound.apart in
    let e : must_stand (b ∷ c ∷ cs) ≡ false =
    sym (must_stand-append b (c ∷ cs) (flat_map spelling_of ps) (front_of_pieces ps rest_allowed first)) ∙ (ap (λ (t : List ℕ). must_stand (b ∷ t)) sound.joined ∙ due) in
    record {
      joined = ap (λ t. b ∷ t) sound.joined;
      allowed = both (not (must_stand_within (b ∷ c ∷ cs))) (list_all is_piece ps) (neither (must_stand (b ∷ c ∷ cs)) (must_stand_within (c ∷ cs)) e within) rest_allowed;
      apart = apart_behind (b ∷ c ∷ cs) ps first (tail_apart (c ∷ cs) ps sound.apart);
    }

nothing_is_sound : IsSound [] []
nothing_is_sound = record { joined = refl; allowed = refl; apart = refl }

more_reference : (reference : Reference) (rest : List ℕ) (ps : List Piece) → is_reference reference ≡ true → IsSound rest ps → IsSound (reference.spelling ++ rest) (Ref reference ∷ ps)
more_reference reference rest ps ok sound =
    record { joined = ap (λ t. reference.spelling ++ t) sound.joined; allowed = both (is_reference reference) (list_all is_piece ps) ok sound.allowed; apart = sound.apart }

-- a text is sound if what begins there is a reference and the rest is sound
by_reference : (m : ℕ) (text : List ℕ) → length text ≤ suc m → EachBegins text → Begins text
    → ((rest : List ℕ) → length rest ≤ m → EachBegins rest → IsSound rest (pieces_from 0 rest)) → IsSound text (pieces_from 0 text)
by_reference m text le each (reference, there, ok) sound =
    let word : List ℕ = reference.spelling in
    let rest : List ℕ = drop (length word) text in
    let text_is : text ≡ word ++ rest = prefix_and_rest word text there in
    let spells : SpellsReference reference.parts word = reference_spells reference ok in
    let word_long : length word ≡ suc (length spells.begins.0) = ap length spells.begins.1 in
    let total : length text ≡ length word + length rest = ap length text_is ∙ length-append word rest in
    let behind : (k : ℕ) → drop (length word + k) text ≡ drop k rest = λ k. ap (drop (length word + k)) text_is ∙ drop-append-add word rest k in
    let each_rest : EachBegins rest =
    λ k lt due. subst Begins (behind k) (each (length word + k) (omega arith) (ap must_stand (behind k) ∙ due)) in
    let rest_sound : IsSound rest (pieces_from 0 rest) = sound rest (omega arith) each_rest in
    subst (λ (t : List ℕ). IsSound t (pieces_from 0 t)) (sym text_is)
    (subst (IsSound (word ++ rest)) (sym (reference_step reference.parts word rest spells)) (more_reference reference rest (pieces_from 0 rest) ok rest_sound))

-- the pieces of a text at each of whose due offsets a reference stands
sound_within : (m : ℕ) (text : List ℕ) → length text ≤ m → EachBegins text → IsSound text (pieces_from 0 text)
sound_within m [] le each = nothing_is_sound
sound_within zero (b ∷ bs) le each = absurd (omega arith)
sound_within (suc m) (b ∷ bs) le each =
    by_head (must_stand (b ∷ bs)) refl (λ rest shorter each_rest. sound_within m rest shorter each_rest)
  where
    by_head : (due : Bool) → must_stand (b ∷ bs) ≡ due → ((rest : List ℕ) → length rest ≤ m → EachBegins rest → IsSound rest (pieces_from 0 rest)) → IsSound (b ∷ bs) (pieces_from 0 (b ∷ bs))
    by_head true due sound = by_reference m (b ∷ bs) le each (each 0 (omega arith) due) sound
    by_head false due sound = subst (IsSound (b ∷ bs)) (sym (at_plain b bs due)) (more_plain b bs (pieces_from 0 bs) due (sound bs (omega arith) (λ k lt. each (suc k) (omega arith))))

-- `[*]` stands alone

nonempty : (p : Piece) → is_piece p ≡ true → 0 < length (spelling_of p)
nonempty (Plain []) ok = absurd (no_path ok)
nonempty (Plain (b ∷ bs)) ok = omega arith
nonempty (Ref reference) ok = let e : length reference.spelling ≡ suc (length (reference_spells reference ok).begins.0) = ap length (reference_spells reference ok).begins.1 in omega arith

-- what a star at this place of the text is: the whole
abbrev StarsAreWhole : List ℕ → Type 0
StarsAreWhole text = (pre rest : List ℕ) (reference : Reference) → text ≡ pre ++ (reference.spelling ++ rest) → is_reference reference ≡ true → ends_with_star reference.parts ≡ true → reference.spelling ≡ text

no_more : (ps : List Piece) → list_all is_piece ps ≡ true → length (flat_map spelling_of ps) ≡ 0 → ps ≡ []
no_more [] allowed none = refl
no_more (p ∷ ps) allowed none =
    let some : 0 < length (spelling_of p) = nonempty p (and_first (is_piece p) (list_all is_piece ps) allowed) in
    let total : length (spelling_of p ++ flat_map spelling_of ps) ≡ length (spelling_of p) + length (flat_map spelling_of ps) = length-append (spelling_of p) (flat_map spelling_of ps) in
    absurd (omega arith)

whole_piece : (text : List ℕ) → StarsAreWhole text → (pre rest : List ℕ) (p : Piece) → text ≡ pre ++ (spelling_of p ++ rest) → is_piece p ≡ true → is_star p ≡ true → spelling_of p ≡ text
whole_piece text whole pre rest (Plain word) is ok star = absurd (no_path star)
whole_piece text whole pre rest (Ref reference) is ok star = whole pre rest reference is ok star

-- where a piece is a star, it is the only one and nothing stands before it
starred : (text : List ℕ) → StarsAreWhole text → (pre : List ℕ) (ps : List Piece) → text ≡ pre ++ flat_map spelling_of ps
    → list_all is_piece ps ≡ true → list_any is_star ps ≡ true → (length pre ≡ 0) × (length ps ≡ 1)
starred text whole pre [] is allowed star = absurd (no_path star)
starred text whole pre (p ∷ ps) is allowed star =
    by_star (is_star p) refl star (λ later. starred text whole (pre ++ spelling_of p) ps (is ∙ sym (append_assoc pre (spelling_of p) (flat_map spelling_of ps))) (and_second (is_piece p) (list_all is_piece ps) allowed) later)
  where
    p_long : 0 < length (spelling_of p)
    p_long = nonempty p (and_first (is_piece p) (list_all is_piece ps) allowed)

    by_star : (first : Bool) → is_star p ≡ first → (first || list_any is_star ps) ≡ true
        → (list_any is_star ps ≡ true → (length (pre ++ spelling_of p) ≡ 0) × (length ps ≡ 1)) → (length pre ≡ 0) × (length (p ∷ ps) ≡ 1)
    by_star false other later rest =
        let none : length (pre ++ spelling_of p) ≡ 0 = (rest later).0 in
        let total : length (pre ++ spelling_of p) ≡ length pre + length (spelling_of p) = length-append pre (spelling_of p) in
        let long : 0 < length (spelling_of p) = p_long in
        absurd (omega arith)
    by_star true this found rest =
        let all_of_it : spelling_of p ≡ text = whole_piece text whole pre (flat_map spelling_of ps) p is (and_first (is_piece p) (list_all is_piece ps) allowed) this in
        let same : length (spelling_of p) ≡ length text = ap length all_of_it in
        let outer : length text ≡ length pre + length (spelling_of p ++ flat_map spelling_of ps) = ap length is ∙ length-append pre (spelling_of p ++ flat_map spelling_of ps) in
        let inner : length (spelling_of p ++ flat_map spelling_of ps) ≡ length (spelling_of p) + length (flat_map spelling_of ps) = length-append (spelling_of p) (flat_map spelling_of ps) in
        let none : ps ≡ [] = no_more ps (and_second (is_piece p) (list_all is_piece ps) allowed) (omega arith) in
        (omega arith, ap (λ (qs : List Piece). suc (length qs)) none)

-- a text with a reference at each due offset has a reading

abbrev EachStands : List ℕ → Type 0
EachStands text = (o : ℕ) → o < length text → must_stand (drop o text) ≡ true → (reference : Reference) × StandsAt text o reference

star_alone_where : (ps : List Piece) → (list_any is_star ps ≡ true → length ps ≡ 1) → star_alone ps ≡ true
star_alone_where ps one = by_star (list_any is_star ps) refl
  where
    by_star : (star : Bool) → list_any is_star ps ≡ star → (not star || nat_le (length ps) 1) ≡ true
    by_star false e = refl
    by_star true e = rw (one e) refl

stars_are_whole : (text : List ℕ) → EachStands text → StarsAreWhole text
stars_are_whole text each pre rest reference is ok star =
    let spells : SpellsReference reference.parts reference.spelling = reference_spells reference ok in
    let o : ℕ = length pre in
    let there : drop o text ≡ reference.spelling ++ rest = ap (drop o) is ∙ drop-append_seam pre (reference.spelling ++ rest) in
    let some : length reference.spelling ≡ suc (length spells.begins.0) = ap length spells.begins.1 in
    let total : length text ≡ length pre + length (reference.spelling ++ rest) = ap length is ∙ length-append pre (reference.spelling ++ rest) in
    let inner : length (reference.spelling ++ rest) ≡ length reference.spelling + length rest = length-append reference.spelling rest in
    let standing : (r : Reference) × StandsAt text o r = each o (omega arith) (ap must_stand there ∙ spells.due rest) in
    let same : standing.0 ≡ reference = sym (stands_is text o standing.0 standing.1) ∙ (ap reference_at there ∙ spells.found rest) in
    ap (λ (r : Reference). r.spelling) (sym same) ∙ standing.1.alone (ap (λ (r : Reference). ends_with_star r.parts) same ∙ star)

pub reads_where_each_stands : (text : List ℕ) → EachStands text → Reads text (pieces_of text)
reads_where_each_stands text each =
    let sound : IsSound text (pieces_of text) = sound_within (length text) text (omega arith) (λ k lt due. let found : (reference : Reference) × StandsAt text k reference = each k lt due in (found.0, found.1.there, found.1.allowed)) in
    record {
      joined = sound.joined;
      allowed = sound.allowed;
      apart = sound.apart;
      alone = star_alone_where (pieces_of text) (λ star. (starred text (stars_are_whole text each) [] (pieces_of text) (sym sound.joined) sound.allowed star).1);
    }

-- whether the reference stands there

abbrev pub is_standing : List ℕ → ℕ → Reference → Bool
is_standing text o r = (starts_with nat_eq (drop o text) r.spelling && is_reference r) && (not (ends_with_star r.parts) || bytes_eq r.spelling text)

pub from_test : (text : List ℕ) (o : ℕ) (r : Reference) → is_standing text o r ≡ true → StandsAt text o r
from_test text o r e =
    let front : (starts_with nat_eq (drop o text) r.spelling && is_reference r) ≡ true = and_first _ (not (ends_with_star r.parts) || bytes_eq r.spelling text) e in
    let back : (not (ends_with_star r.parts) || bytes_eq r.spelling text) ≡ true = and_second (starts_with nat_eq (drop o text) r.spelling && is_reference r) _ e in
    record {
      there = and_first (starts_with nat_eq (drop o text) r.spelling) (is_reference r) front;
      allowed = and_second (starts_with nat_eq (drop o text) r.spelling) (is_reference r) front;
      alone = λ star. same_text r.spelling text (unless (ends_with_star r.parts) (bytes_eq r.spelling text) star back);
    }
  where
    unless : (a b : Bool) → a ≡ true → (not a || b) ≡ true → b ≡ true
    unless true b x y = y
    unless false b x y = absurd (no_path x)

pub to_test : (text : List ℕ) (o : ℕ) (r : Reference) → StandsAt text o r → is_standing text o r ≡ true
to_test text o r stands =
    both (starts_with nat_eq (drop o text) r.spelling && is_reference r) (not (ends_with_star r.parts) || bytes_eq r.spelling text)
    (both (starts_with nat_eq (drop o text) r.spelling) (is_reference r) stands.there stands.allowed) (by_star (ends_with_star r.parts) refl)
  where
    by_star : (star : Bool) → ends_with_star r.parts ≡ star → (not star || bytes_eq r.spelling text) ≡ true
    by_star false e = refl
    by_star true e = (bytes_eq-Decides r.spelling text).1 (stands.alone e)

-- no reference is missing at the offset
abbrev pub is_met : List ℕ → ℕ → Bool
is_met text o = not (must_stand (drop o text)) || is_standing text o (reference_at (drop o text))

pub met_stands : (text : List ℕ) (o : ℕ) → is_met text o ≡ true → must_stand (drop o text) ≡ true → (reference : Reference) × StandsAt text o reference
met_stands text o met due = (reference_at (drop o text), from_test text o (reference_at (drop o text)) (unless (must_stand (drop o text)) (is_standing text o (reference_at (drop o text))) due met))
  where
    unless : (a b : Bool) → a ≡ true → (not a || b) ≡ true → b ≡ true
    unless true b x y = y
    unless false b x y = absurd (no_path x)

-- the first place below n at which a test fails, if it does
abbrev FirstFailure : (ℕ → Bool) → ℕ → Type 0
FirstFailure f n = (o : ℕ) × (f o ≡ false) × ((i : ℕ) → i < o → f i ≡ true)

first_failure : (f : ℕ → Bool) (n : ℕ) → ((i : ℕ) → i < n → f i ≡ true) ⊎ FirstFailure f n
first_failure f zero = inl (λ i lt. absurd (omega arith))
first_failure f (suc n) = elim (first_failure f n) [ inr failure ↦ inr failure | inl all ↦ at_last (f n) refl all ]
  where
    at_last : (r : Bool) → f n ≡ r → ((i : ℕ) → i < n → f i ≡ true) → ((i : ℕ) → i < suc n → f i ≡ true) ⊎ FirstFailure f (suc n)
    at_last false e all = inr (n, e, all)
    at_last true e all =
        inl (λ i lt. elim (cases_lt i n) [ inl less ↦ all i less | inr more ↦ let same : n ≡ i = omega arith in subst (λ k. f k ≡ true) same e ])

pub unmet_is_bad : (text : List ℕ) (o : ℕ) → is_met text o ≡ false → ((i : ℕ) → i < o → is_met text i ≡ true) → IsBadOffset text o
unmet_is_bad text o unmet before =
    record {
      due = must (must_stand (drop o text)) (is_standing text o (reference_at (drop o text))) unmet;
      none = λ reference stands.
          let test : is_standing text o (reference_at (drop o text)) ≡ true = subst (λ r. is_standing text o r ≡ true) (sym (stands_is text o reference stands)) (to_test text o reference stands) in
          no_path (sym (never (must_stand (drop o text)) (is_standing text o (reference_at (drop o text))) unmet) ∙ test);
      least = λ i lt due. met_stands text i (before i lt) due;
    }
  where
    must : (a b : Bool) → (not a || b) ≡ false → a ≡ true
    must true b e = refl
    must false b e = sym e

    never : (a b : Bool) → (not a || b) ≡ false → b ≡ false
    never true b e = e
    never false b e = absurd (no_path (sym e))

-- a text has a reading, or a bad offset
pub reads_or_bad : (text : List ℕ) → Reads text (pieces_of text) ⊎ ((offset : ℕ) × IsBadOffset text offset)
reads_or_bad text =
    elim (first_failure (is_met text) (length text)) [
      | inl all ↦ inl (reads_where_each_stands text (λ o lt due. met_stands text o (all o lt) due))
      | inr failure ↦ inr (failure.0, unmet_is_bad text failure.0 failure.1 failure.2)
    ]

-- a text with a reading has no bad offset

pub starts_with-append : (s rest : List ℕ) → starts_with nat_eq (s ++ rest) s ≡ true
starts_with-append [] rest = refl
starts_with-append (b ∷ bs) rest = rw (eq-eqb b b refl) (starts_with-append bs rest)

-- no reference must stand where another byte than `$` does
pub other_byte_first : (c : ℕ) (zs : List ℕ) → not (c == 36) ≡ true → must_stand (c ∷ zs) ≡ false
other_byte_first c zs other = rw (flipped (nat_eq 36 c) refl) refl
  where
    flipped : (r : Bool) → nat_eq 36 c ≡ r → r ≡ false
    flipped false e = refl
    flipped true e = absurd (no_path (sym (refused (c == 36) other) ∙ eq-eqb c 36 (sym (eqb-true 36 c e))))

pub within_reference : (bs rest : List ℕ) (o : ℕ) → list_all (λ c. not (c == 36)) bs ≡ true → o < length bs → must_stand (drop o (bs ++ rest)) ≡ false
within_reference [] rest o other lt = absurd (omega arith)
within_reference (c ∷ cs) rest zero other lt = other_byte_first c (cs ++ rest) (and_first (not (c == 36)) (list_all (λ c. not (c == 36)) cs) other)
within_reference (c ∷ cs) rest (suc o) other lt = within_reference cs rest o (and_second (not (c == 36)) (list_all (λ c. not (c == 36)) cs) other) (omega arith)

within_plain : (b : ℕ) (bs rest : List ℕ) (o : ℕ) → must_stand_within (b ∷ bs) ≡ false → is_front rest ≡ true → o < length (b ∷ bs) → must_stand (drop o (b ∷ bs ++ rest)) ≡ false
within_plain b bs rest zero none front lt = must_stand-append b bs rest front ∙ none_due b bs none
within_plain b [] rest (suc o) none front lt = absurd (omega arith)
within_plain b (c ∷ cs) rest (suc o) none front lt = within_plain c cs rest o (none_due_later b (c ∷ cs) none) front (omega arith)

-- a reference stands among the pieces, and its text begins at the offset
record IsAt (ps : List Piece) (o : ℕ) : Type 0 where
  before : List Piece
  reference : Reference
  behind : List Piece
  split : ps ≡ before ++ Ref reference ∷ behind
  there : drop o (flat_map spelling_of ps) ≡ reference.spelling ++ flat_map spelling_of behind
  allowed : is_reference reference ≡ true

past : (p : Piece) (ps : List Piece) (k : ℕ) → IsAt ps k → IsAt (p ∷ ps) (length (spelling_of p) + k)
past p ps k at =
    record {
      before = p ∷ at.before;
      reference = at.reference;
      behind = at.behind;
      split = ap (λ qs. p ∷ qs) at.split;
      there = drop-append-add (spelling_of p) (flat_map spelling_of ps) k ∙ at.there;
      allowed = at.allowed;
    }

pub inside_spelling : (s bs rest : List ℕ) (o : ℕ) → s ≡ 36 ∷ bs → list_all (λ c. not (c == 36)) bs ≡ true → suc o < length s → must_stand (drop (suc o) (s ++ rest)) ≡ false
inside_spelling s bs rest o e other lt =
    let long : length s ≡ suc (length bs) = ap length e in
    subst (λ (t : List ℕ). must_stand (drop (suc o) (t ++ rest)) ≡ false) (sym e) (within_reference bs rest o other (omega arith))

-- what stands past a piece stands among the others
beyond : (p : Piece) (ps : List Piece) (o : ℕ) → length (spelling_of p) ≤ o → must_stand (drop o (spelling_of p ++ flat_map spelling_of ps)) ≡ true
    → ((k : ℕ) → must_stand (drop k (flat_map spelling_of ps)) ≡ true → IsAt ps k) → IsAt (p ∷ ps) o
beyond p ps o le due rest =
    let k : ℕ = o - length (spelling_of p) in
    let e : length (spelling_of p) + k ≡ o = omega arith in
    let due_later : must_stand (drop k (flat_map spelling_of ps)) ≡ true =
    sym (ap must_stand (drop-append-add (spelling_of p) (flat_map spelling_of ps) k)) ∙ (ap (λ n. must_stand (drop n (spelling_of p ++ flat_map spelling_of ps))) e ∙ due) in
    subst (IsAt (p ∷ ps)) e (past p ps k (rest k due_later))

at_reference_piece : (reference : Reference) (ps : List Piece) (o : ℕ) → is_reference reference ≡ true → must_stand (drop o (reference.spelling ++ flat_map spelling_of ps)) ≡ true
    → ((k : ℕ) → must_stand (drop k (flat_map spelling_of ps)) ≡ true → IsAt ps k) → IsAt (Ref reference ∷ ps) o
at_reference_piece reference ps zero ok due rest = record { before = []; reference = reference; behind = ps; split = refl; there = refl; allowed = ok }
at_reference_piece reference ps (suc o) ok due rest =
    elim (cases_lt (suc o) (length reference.spelling)) [
      | inl within ↦ let begins : (bs : List ℕ) × (reference.spelling ≡ 36 ∷ bs) × (list_all (λ c. not (c == 36)) bs ≡ true) = (reference_spells reference ok).begins in
          absurd (no_path (sym (inside_spelling reference.spelling begins.0 (flat_map spelling_of ps) o begins.1 begins.2 within) ∙ due))
      | inr more ↦ beyond (Ref reference) ps (suc o) more due rest
    ]

-- where a reference must stand, one of the pieces does
due_is_at : (ps : List Piece) (o : ℕ) → list_all is_piece ps ≡ true → plain_apart ps ≡ true → must_stand (drop o (flat_map spelling_of ps)) ≡ true → IsAt ps o
due_is_at [] zero allowed apart due = absurd (no_path due)
due_is_at [] (suc o) allowed apart due = absurd (no_path due)
due_is_at (Plain [] ∷ ps) o allowed apart due = absurd (no_path allowed)
due_is_at (Plain (b ∷ bs) ∷ ps) o allowed apart due =
    let rest_allowed : list_all is_piece ps ≡ true = and_second (not (must_stand_within (b ∷ bs))) (list_all is_piece ps) allowed in
    let none : must_stand_within (b ∷ bs) ≡ false = refused (must_stand_within (b ∷ bs)) (and_first (not (must_stand_within (b ∷ bs))) (list_all is_piece ps) allowed) in
    let front : is_front (flat_map spelling_of ps) ≡ true = front_of_pieces ps rest_allowed (no_plain_behind (b ∷ bs) ps apart) in
    elim (cases_lt o (length (b ∷ bs))) [
      | inl within ↦ absurd (no_path (sym (within_plain b bs (flat_map spelling_of ps) o none front within) ∙ due))
      | inr more ↦ beyond (Plain (b ∷ bs)) ps o more due (λ k later. due_is_at ps k rest_allowed (tail_apart (b ∷ bs) ps apart) later)
    ]
due_is_at (Ref reference ∷ ps) o allowed apart due =
    at_reference_piece reference ps o (and_first (is_reference reference) (list_all is_piece ps) allowed) due
    (λ k later. due_is_at ps k (and_second (is_reference reference) (list_all is_piece ps) allowed) apart later)

-- a star among pieces of which a star stands alone is the only piece

star_among : (before : List Piece) (reference : Reference) (behind : List Piece) → ends_with_star reference.parts ≡ true → list_any is_star (before ++ Ref reference ∷ behind) ≡ true
star_among [] reference behind star = rw star refl
star_among (p ∷ before) reference behind star = either (is_star p) (star_among before reference behind star)
  where
    either : (a : Bool) {b : Bool} → b ≡ true → (a || b) ≡ true
    either true e = refl
    either false e = e

one_at_most : (ps : List Piece) → list_any is_star ps ≡ true → star_alone ps ≡ true → length ps ≤ 1
one_at_most ps star one = leb-true (length ps) 1 (unless (list_any is_star ps) (nat_le (length ps) 1) star one)
  where
    unless : (a b : Bool) → a ≡ true → (not a || b) ≡ true → b ≡ true
    unless true b x y = y
    unless false b x y = absurd (no_path x)

star_is_whole : (before : List Piece) (reference : Reference) (behind : List Piece) → ends_with_star reference.parts ≡ true
    → star_alone (before ++ Ref reference ∷ behind) ≡ true → flat_map spelling_of (before ++ Ref reference ∷ behind) ≡ reference.spelling
star_is_whole [] reference [] star one = append-nil reference.spelling
star_is_whole [] reference (q ∷ behind) star one =
    let few : length (Ref reference ∷ q ∷ behind) ≤ 1 = one_at_most (Ref reference ∷ q ∷ behind) (star_among [] reference (q ∷ behind) star) one in
    absurd (omega arith)
star_is_whole (p ∷ before) reference behind star one =
    let few : length (p ∷ before ++ Ref reference ∷ behind) ≤ 1 = one_at_most (p ∷ before ++ Ref reference ∷ behind) (star_among (p ∷ before) reference behind star) one in
    let total : length (before ++ Ref reference ∷ behind) ≡ length before + length (Ref reference ∷ behind) = length-append before (Ref reference ∷ behind) in
    absurd (omega arith)

-- where a reference must stand in a text with a reading, one does
pub stands_where_due : (text : List ℕ) (pieces : List Piece) (offset : ℕ) → Reads text pieces → must_stand (drop offset text) ≡ true → (reference : Reference) × StandsAt text offset reference
stands_where_due text pieces offset reads due =
    let at : IsAt pieces offset = due_is_at pieces offset reads.allowed reads.apart (ap (λ (t : List ℕ). must_stand (drop offset t)) reads.joined ∙ due) in
    let there : drop offset text ≡ at.reference.spelling ++ flat_map spelling_of at.behind = ap (drop offset) (sym reads.joined) ∙ at.there in (
      at.reference,
      record {
        there = ap (λ (t : List ℕ). starts_with nat_eq t at.reference.spelling) there ∙ starts_with-append at.reference.spelling (flat_map spelling_of at.behind);
        allowed = at.allowed;
        alone = λ star.
            sym (star_is_whole at.before at.reference at.behind star (ap star_alone (sym at.split) ∙ reads.alone)) ∙ (ap (flat_map spelling_of) (sym at.split) ∙ reads.joined);
      },
    )

-- a text with a reading has no bad offset
pub no_bad_offset : (text : List ℕ) (pieces : List Piece) (offset : ℕ) → Reads text pieces → ¬ IsBadOffset text offset
no_bad_offset text pieces offset reads bad = let found = stands_where_due text pieces offset reads bad.due in bad.none found.0 found.1
