-- What each slot allows of a text that begins with a dot, with a bracket, or with neither.
use Rattle.std.proofs.Common.{◌≡◌, ℕ, suc, ◌+◌, ◌<◌, List, [], ◌∷◌, ◌++◌, length, refl, sym, ◌∙◌, ap, Bool, true, false, ◌&&◌, ◌||◌, not, arith, append_assoc, length-append}
use Rattle.std.specs.Prelude.{bytes_eq, ◌==◌, codes}
use Rattle.std.specs.List.{list_any, list_all, AllByRecursion}
use Rattle.std.proofs.lemmas.List.{append-nil}
use Rattle.tk_vars.specs.declared.part.Part.{Part}
use Rattle.tk_vars.specs.declared.part.Part.TheVariants.{Name, Index, Star}
use Rattle.tk_vars.specs.Grammar.{Slot, word, name, part, selector, is_name_byte, joins, dotted, indexed, part_spellings, selector_spellings, slots_spellings}
use Rattle.tk_vars.specs.Reading.{bracketed, part_at, parts_from}
use Rattle.tk_vars.specs.Steps.{IsDotted, IsBracketed, in_bracket, begins_dotted, begins_bracketed, is_name, is_choice, is_inside, is_tail}
use Rattle.tk_vars.proofs.TextFacts.{and_first, and_second, same_text, each-joins, each-where, each-if, from_each}
use Rattle.tk_vars.proofs.PartFacts.{SpellsPart, part_len, begins, dotted_spells, indexed_spells, part_spells, name_at, after_name_at, bracket_at, after_bracket_at}
use Rattle.tk_vars.proofs.TailFacts.{and_both, never, and_false, IsCut, part_step, name_step, word_step, end_step}
use Rattle.tk_vars.proofs.BracketFacts.{name_test, dotted_part_test, bracket_test}

no_true : false ≡ true → ⊥
no_true e = cc

-- a text that begins with a dot

dotted_cut : (tail n r : List ℕ) → IsDotted tail n r → IsCut (Name n) (46 ∷ n) r
dotted_cut tail n r split =
    record { parsed = after_name_at n r split.within split.stops; long = ap (λ (next : Part × ℕ). suc next.1) (name_at n r split.within split.stops) }

pub dotted_part : (tail n r : List ℕ) → IsDotted tail n r → (slots : List Slot) → is_tail (part ∷ slots) tail ≡ (is_name n && is_tail slots r)
dotted_part tail n r split slots =
    ap (is_tail (part ∷ slots)) split.text_is ∙ (part_step (Name n) (46 ∷ n) r slots (dotted_cut tail n r split) ∙ ap (λ t. t && is_tail slots r) (dotted_part_test n))

pub dotted_name : (tail n r : List ℕ) → IsDotted tail n r → (slots : List Slot) → is_tail (name ∷ slots) tail ≡ (is_name n && is_tail slots r)
dotted_name tail n r split slots =
    ap (is_tail (name ∷ slots)) split.text_is ∙ (name_step n (46 ∷ n) r slots (dotted_cut tail n r split) ∙ ap (λ t. t && is_tail slots r) (name_test n))

pub dotted_word : (w tail n r : List ℕ) → is_name w ≡ true → IsDotted tail n r → (slots : List Slot) → is_tail (word w ∷ slots) tail ≡ (bytes_eq n w && is_tail slots r)
dotted_word w tail n r ok split slots =
    ap (is_tail (word w ∷ slots)) split.text_is ∙ (word_step w n (46 ∷ n) r slots (dotted_cut tail n r split) ∙ (ap (λ t. bytes_eq n w && (t && is_tail slots r)) (name_test n) ∙ known (bytes_eq n w) refl))
  where
    known : (same : Bool) → bytes_eq n w ≡ same → (same && (is_name n && is_tail slots r)) ≡ (same && is_tail slots r)
    known false e = refl
    known true e = let named : is_name n ≡ true = ap is_name (same_text n w e) ∙ ok in rw named refl

nothing_left : (b : ℕ) (bs : List ℕ) → (length (b ∷ bs) == 0) ≡ false
nothing_left b bs = sym (end_step (b ∷ bs))

-- the only part of a selector is the whole of it
alone : (p : Part) (f r : List ℕ) → IsCut p f r → is_tail (selector ∷ []) (f ++ r) ≡ (list_any (bytes_eq f) (selector_spellings (p ∷ [])) && (length r == 0))
alone p f [] cut =
    ap (λ ps. list_any (bytes_eq (f ++ [])) (selector_spellings ps)) cut.parsed ∙ (ap (λ t. list_any (bytes_eq t) (selector_spellings (p ∷ []))) (append-nil f) ∙ and_true (list_any (bytes_eq f) (selector_spellings (p ∷ []))))
  where
    and_true : (a : Bool) → a ≡ (a && true)
    and_true true = refl
    and_true false = refl
alone p f (b ∷ bs) cut =
    ap (λ ps. list_any (bytes_eq (f ++ b ∷ bs)) (selector_spellings ps)) cut.parsed
    ∙ (none p ∙ sym (ap (λ t. list_any (bytes_eq f) (selector_spellings (p ∷ [])) && t) (nothing_left b bs) ∙ and_false (list_any (bytes_eq f) (selector_spellings (p ∷ [])))))
  where
    none : (q : Part) → list_any (bytes_eq (f ++ b ∷ bs)) (selector_spellings (q ∷ parts_from 0 (b ∷ bs))) ≡ false
    none (Name n) = refl
    none (Index i) = refl
    none Star = refl

pub dotted_selector : (tail n r : List ℕ) → IsDotted tail n r → is_tail (selector ∷ []) tail ≡ (is_name n && (length r == 0))
dotted_selector tail n r split =
    ap (is_tail (selector ∷ [])) split.text_is ∙ (alone (Name n) (46 ∷ n) r (dotted_cut tail n r split) ∙ ap (λ t. t && (length r == 0)) (name_test n))

-- a text that begins with a bracket

bracket_text : (inner r : List ℕ) → (91 ∷ inner ++ 93 ∷ []) ++ r ≡ 91 ∷ inner ++ 93 ∷ r
bracket_text inner r = ap (λ zs. 91 ∷ zs) (append_assoc inner (93 ∷ []) r)

bracket_cut : (tail inner r : List ℕ) → IsBracketed tail inner r → IsCut (bracketed inner) (91 ∷ inner ++ 93 ∷ []) r
bracket_cut tail inner r split =
    record {
      parsed = ap (parts_from 0) (bracket_text inner r) ∙ after_bracket_at inner r split.within;
      long = ap part_len (bracket_text inner r) ∙ (ap (λ (next : Part × ℕ). suc next.1) (bracket_at inner r split.within) ∙ ap suc (sym (length-append inner (93 ∷ []))));
    }

whole_bracket : (tail inner r : List ℕ) → IsBracketed tail inner r → tail ≡ (91 ∷ inner ++ 93 ∷ []) ++ r
whole_bracket tail inner r split = split.text_is ∙ sym (bracket_text inner r)

pub bracketed_part : (tail inner r : List ℕ) → IsBracketed tail inner r → (slots : List Slot) → is_tail (part ∷ slots) tail ≡ (is_inside inner && is_tail slots r)
bracketed_part tail inner r split slots =
    ap (is_tail (part ∷ slots)) (whole_bracket tail inner r split)
    ∙ (part_step (bracketed inner) (91 ∷ inner ++ 93 ∷ []) r slots (bracket_cut tail inner r split) ∙ ap (λ t. t && is_tail slots r) (bracket_test inner).as_part)

pub bracketed_selector : (tail inner r : List ℕ) → IsBracketed tail inner r → is_tail (selector ∷ []) tail ≡ (is_choice inner && (length r == 0))
bracketed_selector tail inner r split =
    ap (is_tail (selector ∷ [])) (whole_bracket tail inner r split)
    ∙ (alone (bracketed inner) (91 ∷ inner ++ 93 ∷ []) r (bracket_cut tail inner r split) ∙ ap (λ t. t && (length r == 0)) (bracket_test inner).as_selector)

-- a text that begins with neither

abbrev Begins : List ℕ → Type 0
Begins x = begins x ≡ true

abbrev BeginsDotted : List ℕ → Type 0
BeginsDotted x = begins_dotted x ≡ true

abbrev Any : List ℕ → Type 0
Any x = Unit {0}

each_any : (xs : List (List ℕ)) → AllByRecursion Any xs
each_any [] = tt
each_any (x ∷ xs) = (tt, each_any xs)

none_passes : (P : List ℕ → Type 0) (s : List ℕ) (xs : List (List ℕ)) → AllByRecursion P xs → (P s → ⊥) → list_any (bytes_eq s) xs ≡ false
none_passes P s xs all bad = never (list_any (bytes_eq s) xs) (λ e. bad (from_each P s xs all e))

dot_first : (n : List ℕ) → AllByRecursion BeginsDotted (dotted n)
dot_first [] = tt
dot_first (b ∷ bs) = each-where BeginsDotted (list_all is_name_byte (b ∷ bs)) (codes "." ++ b ∷ bs) (λ e. refl)

still_dotted : (x y : List ℕ) → BeginsDotted x → BeginsDotted (x ++ y)
still_dotted [] y e = absurd (no_true e)
still_dotted (b ∷ bs) y e = e

dotted_joins : (n : List ℕ) (ys : List (List ℕ)) → AllByRecursion BeginsDotted (joins (dotted n) ys)
dotted_joins n ys = each-joins BeginsDotted Any BeginsDotted (dotted n) ys (λ x y e h. still_dotted x y e) (dot_first n) (each_any ys)

each_name : (slots : List Slot) (ps : List Part) → AllByRecursion BeginsDotted (slots_spellings (name ∷ slots) ps)
each_name slots [] = tt
each_name slots (Name n ∷ ps) = dotted_joins n (slots_spellings slots ps)
each_name slots (Index i ∷ ps) = tt
each_name slots (Star ∷ ps) = tt

each_word : (w : List ℕ) (slots : List Slot) (ps : List Part) → AllByRecursion BeginsDotted (slots_spellings (word w ∷ slots) ps)
each_word w slots [] = tt
each_word w slots (Name n ∷ ps) = each-if BeginsDotted (bytes_eq n w) (joins (dotted n) (slots_spellings slots ps)) (λ same. dotted_joins n (slots_spellings slots ps))
each_word w slots (Index i ∷ ps) = tt
each_word w slots (Star ∷ ps) = tt

pub undotted_name : (tail : List ℕ) (slots : List Slot) → begins_dotted tail ≡ false → is_tail (name ∷ slots) tail ≡ false
undotted_name tail slots other = none_passes BeginsDotted tail (slots_spellings (name ∷ slots) (parts_from 0 tail)) (each_name slots (parts_from 0 tail)) (λ e. no_true (sym other ∙ e))

pub undotted_word : (w tail : List ℕ) (slots : List Slot) → begins_dotted tail ≡ false → is_tail (word w ∷ slots) tail ≡ false
undotted_word w tail slots other =
    none_passes BeginsDotted tail (slots_spellings (word w ∷ slots) (parts_from 0 tail)) (each_word w slots (parts_from 0 tail)) (λ e. no_true (sym other ∙ e))

shorter : (zs y : List ℕ) → list_all in_bracket (zs ++ y) ≡ true → list_all in_bracket zs ≡ true
shorter [] y h = refl
shorter (z ∷ zs) y h = and_both (in_bracket z) (list_all in_bracket zs) (and_first (in_bracket z) (list_all in_bracket (zs ++ y)) h) (shorter zs y (and_second (in_bracket z) (list_all in_bracket (zs ++ y)) h))

still_begins : (x y : List ℕ) → Begins x → Begins (x ++ y)
still_begins [] y e = absurd (no_true e)
still_begins (b ∷ bs) y e = either (b == 46) (b == 91) (list_all in_bracket bs) (list_all in_bracket (bs ++ y)) (shorter bs y) e
  where
    either : (p q r s : Bool) → (s ≡ true → r ≡ true) → (p || (q && not r)) ≡ true → (p || (q && not s)) ≡ true
    either true q r s h e = refl
    either false false r s h e = e
    either false true r false h e = refl
    either false true r true h e = let closed : not r ≡ true = e in absurd (no_true (sym (ap not (h refl)) ∙ closed))

each_begins : (p : Part) (xs : List (List ℕ)) → AllByRecursion (SpellsPart p) xs → AllByRecursion Begins xs
each_begins p [] all = tt
each_begins p (x ∷ xs) all = (all.0.begun, each_begins p xs all.1)

each_part : (slots : List Slot) (ps : List Part) → AllByRecursion Begins (slots_spellings (part ∷ slots) ps)
each_part slots [] = tt
each_part slots (p ∷ ps) =
    each-joins Begins Any Begins (part_spellings p) (slots_spellings slots ps) (λ x y e h. still_begins x y e) (each_begins p (part_spellings p) (part_spells p)) (each_any (slots_spellings slots ps))

not_begun : (tail : List ℕ) → begins_dotted tail ≡ false → begins_bracketed tail ≡ false → Begins tail → ⊥
not_begun tail no_dot no_bracket e = no_true (sym neither ∙ e)
  where
    neither : begins tail ≡ false
    neither = rw (no_dot, no_bracket) refl

pub unbegun_part : (tail : List ℕ) (slots : List Slot) → begins_dotted tail ≡ false → begins_bracketed tail ≡ false → is_tail (part ∷ slots) tail ≡ false
unbegun_part tail slots no_dot no_bracket =
    none_passes Begins tail (slots_spellings (part ∷ slots) (parts_from 0 tail)) (each_part slots (parts_from 0 tail)) (not_begun tail no_dot no_bracket)

each_selector : (p : Part) (ps : List Part) → AllByRecursion Begins (selector_spellings (p ∷ ps))
each_selector (Name n) [] = each_begins (Name n) (dotted n) (dotted_spells n)
each_selector (Index i) [] = each_begins (Index i) (indexed i) (indexed_spells i)
each_selector Star [] = (refl, tt)
each_selector (Name n) (q ∷ qs) = tt
each_selector (Index i) (q ∷ qs) = tt
each_selector Star (q ∷ qs) = tt

pub unbegun_selector : (tail : List ℕ) → (length tail == 0) ≡ false → begins_dotted tail ≡ false → begins_bracketed tail ≡ false → is_tail (selector ∷ []) tail ≡ false
unbegun_selector [] some no_dot no_bracket = absurd (no_true (sym some))
unbegun_selector (b ∷ bs) some no_dot no_bracket =
    none_passes Begins (b ∷ bs) (slots_spellings (selector ∷ []) (parts_from 0 (b ∷ bs))) (each_selector (part_at b bs).0 (parts_from (part_at b bs).1 bs)) (not_begun (b ∷ bs) no_dot no_bracket)

-- what follows a part is shorter

pub behind_dotted : (tail n r : List ℕ) → IsDotted tail n r → length r < length tail
behind_dotted tail n r split =
    let whole : length tail ≡ suc (length (n ++ r)) = ap length split.text_is in
    let parts_len : length (n ++ r) ≡ length n + length r = length-append n r in
    omega arith

pub behind_bracketed : (tail inner r : List ℕ) → IsBracketed tail inner r → length r < length tail
behind_bracketed tail inner r split =
    let whole : length tail ≡ suc (length (inner ++ 93 ∷ r)) = ap length split.text_is in
    let parts_len : length (inner ++ 93 ∷ r) ≡ length inner + length (93 ∷ r) = length-append inner (93 ∷ r) in
    omega arith
