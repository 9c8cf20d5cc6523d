-- What a first part says of the text that slots allow.
use Rattle.std.proofs.Common.{◌≡◌, ℕ, List, [], ◌∷◌, ◌++◌, map, length, take, drop, refl, sym, ◌∙◌, ap, Bool, true, false, ◌&&◌, ◌||◌, arith}
use Rattle.std.specs.Prelude.{bytes_eq, if◌then◌else◌, ◌==◌}
use Rattle.std.specs.List.{list_any, AllByRecursion}
use Rattle.std.proofs.Math.Seq.{take-append_seam, drop-append_seam}
use Rattle.std.proofs.lemmas.Bool.{eqb-true}
use Rattle.std.proofs.lemmas.Slice.Eq.{bytes_eq-Decides}
use Rattle.tk_vars.specs.declared.part.Part.{Part}
use Rattle.tk_vars.specs.declared.part.Part.TheVariants.{Name}
use Rattle.tk_vars.specs.Grammar.{Slot, word, name, part, parts, joins, dotted, part_spellings, slots_spellings}
use Rattle.tk_vars.specs.Reading.{parts_from}
use Rattle.tk_vars.specs.Steps.{is_tail}
use Rattle.tk_vars.proofs.TextFacts.{and_first, same_text}
use Rattle.tk_vars.proofs.PartFacts.{SpellsPart, SpellsParts, part_len, dotted_spells, part_spells, slots_spell}

-- tests

pub same_test : (a b : Bool) → (a ≡ true → b ≡ true) → (b ≡ true → a ≡ true) → a ≡ b
same_test true b to from = sym (to refl)
same_test false true to from = from refl
same_test false false to from = refl

pub and_both : (a b : Bool) → a ≡ true → b ≡ true → (a && b) ≡ true
and_both a b x y = rw (x, y) refl

pub and_false : (a : Bool) → (a && false) ≡ false
and_false true = refl
and_false false = refl

no_true : false ≡ true → ⊥
no_true e = cc

pub never : (a : Bool) → (a ≡ true → ⊥) → a ≡ false
never a bad = elim a as (λ b. (b ≡ true → ⊥) → b ≡ false) [ true ↦ λ h. absurd (h refl) | false ↦ λ h. refl ] bad

pub same_bytes : (xs ys : List ℕ) → xs ≡ ys → bytes_eq xs ys ≡ true
same_bytes xs ys e = (bytes_eq-Decides xs ys).1 e

over_and : (a b c : Bool) → ((a && b) || (a && c)) ≡ (a && (b || c))
over_and true b c = refl
over_and false b c = refl

under_or : (a b c : Bool) → ((a && c) || (b && c)) ≡ ((a || b) && c)
under_or true true true = refl
under_or true true false = refl
under_or true false true = refl
under_or true false false = refl
under_or false b c = refl

pub list_any-append : {X : Type 0} (f : X → Bool) (xs ys : List X) → list_any f (xs ++ ys) ≡ (list_any f xs || list_any f ys)
list_any-append f [] ys = refl
list_any-append f (x ∷ xs) ys = ap (λ r. f x || r) (list_any-append f xs ys) ∙ or_assoc (f x) (list_any f xs) (list_any f ys)
  where
    or_assoc : (a b c : Bool) → (a || (b || c)) ≡ ((a || b) || c)
    or_assoc true b c = refl
    or_assoc false b c = refl

-- a text cut into a front and a rest is one of the joins exactly where the front is one of the first and the rest one of the second

pub same_rest : (xs ys zs : List ℕ) → xs ++ ys ≡ xs ++ zs → ys ≡ zs
same_rest xs ys zs e = sym (drop-append_seam xs ys) ∙ (ap (drop (length xs)) e ∙ drop-append_seam xs zs)

pub same_front : (xs ys vs ws : List ℕ) → xs ++ ys ≡ vs ++ ws → length xs ≡ length vs → xs ≡ vs
same_front xs ys vs ws e long = sym (take-append_seam xs ys) ∙ (ap (take (length xs)) e ∙ (ap (λ n. take n (vs ++ ws)) long ∙ take-append_seam vs ws))

abbrev OneCut : List ℕ → List ℕ → List ℕ → List ℕ → Type 0
OneCut f r x y = x ++ y ≡ f ++ r → x ≡ f

cut_test : (f r x y : List ℕ) → OneCut f r x y → bytes_eq (f ++ r) (x ++ y) ≡ (bytes_eq f x && bytes_eq r y)
cut_test f r x y one = same_test (bytes_eq (f ++ r) (x ++ y)) (bytes_eq f x && bytes_eq r y) to from
  where
    to : bytes_eq (f ++ r) (x ++ y) ≡ true → (bytes_eq f x && bytes_eq r y) ≡ true
    to e =
        let whole : f ++ r ≡ x ++ y = same_text (f ++ r) (x ++ y) e in
        let fronts : x ≡ f = one (sym whole) in
        let rests : r ≡ y = same_rest f r y (whole ∙ ap (λ z. z ++ y) fronts) in
        and_both (bytes_eq f x) (bytes_eq r y) (same_bytes f x (sym fronts)) (same_bytes r y rests)

    from : (bytes_eq f x && bytes_eq r y) ≡ true → bytes_eq (f ++ r) (x ++ y) ≡ true
    from e =
        let fronts : f ≡ x = same_text f x (and_first (bytes_eq f x) (bytes_eq r y) e) in
        let rests : r ≡ y = same_text r y (second (bytes_eq f x) (bytes_eq r y) e) in
        same_bytes (f ++ r) (x ++ y) (ap (λ z. z ++ r) fronts ∙ ap (λ z. x ++ z) rests)
      where
        second : (a b : Bool) → (a && b) ≡ true → b ≡ true
        second true b e = e
        second false b e = cc

map_cut : (f r x : List ℕ) (Q : List ℕ → Type 0) (ys : List (List ℕ)) → ((y : List ℕ) → Q y → OneCut f r x y) → AllByRecursion Q ys
    → list_any (bytes_eq (f ++ r)) (map (λ y. x ++ y) ys) ≡ (bytes_eq f x && list_any (bytes_eq r) ys)
map_cut f r x Q [] one all = sym (and_false (bytes_eq f x))
map_cut f r x Q (y ∷ ys) one all =
    ap (λ t. t || list_any (bytes_eq (f ++ r)) (map (λ z. x ++ z) ys)) (cut_test f r x y (one y all.0))
    ∙ (ap (λ t. (bytes_eq f x && bytes_eq r y) || t) (map_cut f r x Q ys one all.1) ∙ over_and (bytes_eq f x) (bytes_eq r y) (list_any (bytes_eq r) ys))

joins_cut : (f r : List ℕ) (P Q : List ℕ → Type 0) (xs ys : List (List ℕ)) → ((x y : List ℕ) → P x → Q y → OneCut f r x y) → AllByRecursion P xs → AllByRecursion Q ys
    → list_any (bytes_eq (f ++ r)) (joins xs ys) ≡ (list_any (bytes_eq f) xs && list_any (bytes_eq r) ys)
joins_cut f r P Q [] ys one all_x all_y = refl
joins_cut f r P Q (x ∷ xs) ys one all_x all_y =
    list_any-append (bytes_eq (f ++ r)) (map (λ y. x ++ y) ys) (joins xs ys)
    ∙ (ap (λ t. t || list_any (bytes_eq (f ++ r)) (joins xs ys)) (map_cut f r x Q ys (λ y q. one x y all_x.0 q) all_y)
    ∙ (ap (λ t. (bytes_eq f x && list_any (bytes_eq r) ys) || t) (joins_cut f r P Q xs ys one all_x.1 all_y)
    ∙ under_or (bytes_eq f x) (list_any (bytes_eq f) xs) (list_any (bytes_eq r) ys)))

-- the text is this front, which is read as the part, and then the rest
pub record IsCut (p : Part) (f r : List ℕ) : Type 0 where
  pub parsed : parts_from 0 (f ++ r) ≡ p ∷ parts_from 0 r
  pub long : part_len (f ++ r) ≡ length f

spellings_cut : (p : Part) (f r : List ℕ) (ps : List Part) (xs ys : List (List ℕ)) → IsCut p f r → AllByRecursion (SpellsPart p) xs → AllByRecursion (SpellsParts ps) ys
    → list_any (bytes_eq (f ++ r)) (joins xs ys) ≡ (list_any (bytes_eq f) xs && list_any (bytes_eq r) ys)
spellings_cut p f r ps xs ys cut = joins_cut f r (SpellsPart p) (SpellsParts ps) xs ys one
  where
    one : (x y : List ℕ) → SpellsPart p x → SpellsParts ps y → OneCut f r x y
    one x y first others whole = same_front x y f r whole (sym (first.long y others.follows) ∙ (ap part_len whole ∙ cut.long))

-- a part, a name and a word behind a dot, in front of further slots

pub part_step : (p : Part) (f r : List ℕ) (slots : List Slot) → IsCut p f r → is_tail (part ∷ slots) (f ++ r) ≡ (list_any (bytes_eq f) (part_spellings p) && is_tail slots r)
part_step p f r slots cut =
    ap (λ ps. list_any (bytes_eq (f ++ r)) (slots_spellings (part ∷ slots) ps)) cut.parsed
    ∙ spellings_cut p f r (parts_from 0 r) (part_spellings p) (slots_spellings slots (parts_from 0 r)) cut (part_spells p) (slots_spell slots (parts_from 0 r))

pub name_step : (n f r : List ℕ) (slots : List Slot) → IsCut (Name n) f r → is_tail (name ∷ slots) (f ++ r) ≡ (list_any (bytes_eq f) (dotted n) && is_tail slots r)
name_step n f r slots cut =
    ap (λ ps. list_any (bytes_eq (f ++ r)) (slots_spellings (name ∷ slots) ps)) cut.parsed
    ∙ spellings_cut (Name n) f r (parts_from 0 r) (dotted n) (slots_spellings slots (parts_from 0 r)) cut (dotted_spells n) (slots_spell slots (parts_from 0 r))

pub word_step : (w n f r : List ℕ) (slots : List Slot) → IsCut (Name n) f r → is_tail (word w ∷ slots) (f ++ r) ≡ (bytes_eq n w && (list_any (bytes_eq f) (dotted n) && is_tail slots r))
word_step w n f r slots cut =
    ap (λ ps. list_any (bytes_eq (f ++ r)) (slots_spellings (word w ∷ slots) ps)) cut.parsed
    ∙ by_test (bytes_eq n w)
  where
    by_test : (same : Bool) → list_any (bytes_eq (f ++ r)) (if same then joins (dotted n) (slots_spellings slots (parts_from 0 r)) else []) ≡ (same && (list_any (bytes_eq f) (dotted n) && is_tail slots r))
    by_test true = spellings_cut (Name n) f r (parts_from 0 r) (dotted n) (slots_spellings slots (parts_from 0 r)) cut (dotted_spells n) (slots_spell slots (parts_from 0 r))
    by_test false = refl

-- nothing is what no slot allows
pub end_step : (t : List ℕ) → is_tail [] t ≡ (length t == 0)
end_step [] = refl
end_step (b ∷ bs) = sym (never (length (b ∷ bs) == 0) (λ e. let none : length (b ∷ bs) ≡ 0 = eqb-true (length (b ∷ bs)) 0 e in absurd (omega arith)))

-- parts in a row are none, or a part and parts in a row
pub more_parts : (t : List ℕ) → (length t == 0) ≡ false → is_tail (parts ∷ []) t ≡ is_tail (part ∷ parts ∷ []) t
more_parts [] some = absurd (no_true (sym some))
more_parts (b ∷ bs) some = refl

pub no_parts_left : (t : List ℕ) → (length t == 0) ≡ true → is_tail (parts ∷ []) t ≡ true
no_parts_left [] none = refl
no_parts_left (b ∷ bs) none = absurd (no_true (end_step (b ∷ bs) ∙ none))
