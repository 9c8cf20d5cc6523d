-- What the parts of a reference are built of.
use Rattle.std.proofs.Common.{◌≡◌, ℕ, zero, suc, ◌-◌, ◌^◌, ◌<◌, ◌≤◌, List, [], ◌∷◌, ◌++◌, length, take, drop, get_or, refl, sym, ◌∙◌, ap, subst, Bool, true, false, ◌&&◌, ◌||◌, not, arith, length-take}
use Rattle.std.specs.Prelude.{bytes_eq, codes, ◌==◌, nat_le}
use Rattle.std.specs.Char.{is_ascii_alphabetic, is_ascii_digit}
use Rattle.std.specs.List.{list_all}
use Rattle.std.specs.Str.{IsUtf8, IsAscii, all_ascii_digits}
use Rattle.std.specs.Int.{IsInRange, is_in_range}
use Rattle.std.proofs.lemmas.Bool.{leb-true, eqb-true, ne_eqb}
use Rattle.std.proofs.lemmas.Str.{IsUtf8-from_ascii}
use Rattle.std.proofs.lemmas.Str.Parse.{digit_at, digits_value_short}
use Rattle.tk_vars.specs.declared.part.Part.{Part}
use Rattle.tk_vars.specs.declared.part.Part.TheVariants.{Name}
use Rattle.tk_vars.specs.declared.reference.Reference.{Reference}
use Rattle.tk_vars.specs.Grammar.{parts, part, is_name_byte, is_quoted_byte}
use Rattle.tk_vars.specs.Reading.{number_of, bracketed, parts_from, reference_of}
use Rattle.tk_vars.specs.Steps.{SplitsAt, IsDotted, IsBracketed, IsFirstPart, begins_dotted, begins_bracketed, is_name, is_index, is_between, is_in_quotes, is_inside, is_tail}
use Rattle.tk_vars.proofs.TextFacts.{and_first, and_second}
use Rattle.tk_vars.proofs.PartFacts.{decimal_model, after_name_at, after_bracket_at}
use Rattle.tk_vars.proofs.TailFacts.{more_parts}
use Rattle.tk_vars.proofs.BracketFacts.{or_cases}
use Rattle.tk_vars.proofs.ShapeFacts.{dotted_part, bracketed_part, unbegun_part, behind_dotted, behind_bracketed}
use Rattle.tk_vars.proofs.TableFacts.{reference_of_split}

no_true : false ≡ true → ⊥
no_true e = cc

-- bytes below 128 are a text

below_128 : (p : ℕ → Bool) → ((b : ℕ) → p b ≡ true → b < 128) → (xs : List ℕ) → list_all p xs ≡ true → (i : ℕ) → get_or xs i 0 < 128
below_128 p low [] all i = omega arith
below_128 p low (x ∷ xs) all zero = low x (and_first (p x) (list_all p xs) all)
below_128 p low (x ∷ xs) all (suc i) = below_128 p low xs (and_second (p x) (list_all p xs) all) i

text_of : (p : ℕ → Bool) → ((b : ℕ) → p b ≡ true → b < 128) → (xs : List ℕ) → list_all p xs ≡ true → IsUtf8 xs
text_of p low xs all = let ascii : IsAscii xs = below_128 p low xs all in IsUtf8-from_ascii xs ascii

up_to : (low high b : ℕ) → is_in_range low high b ≡ true → b ≤ high
up_to low high b e = leb-true b high (and_second (nat_le low b) (nat_le b high) e)

letter : (b : ℕ) → is_ascii_alphabetic b ≡ true → b < 128
letter b e =
    or_cases (is_in_range 65 90 b) (is_in_range 97 122 b) e
    (λ h. let le : b ≤ 90 = up_to 65 90 b h in omega arith) (λ h. let le : b ≤ 122 = up_to 97 122 b h in omega arith)

name_byte : (b : ℕ) → is_name_byte b ≡ true → b < 128
name_byte b e =
    or_cases (((is_in_range 48 57 b || is_in_range 65 90 b) || is_in_range 97 122 b) || b == 45) (b == 95) e
    (λ h. or_cases ((is_in_range 48 57 b || is_in_range 65 90 b) || is_in_range 97 122 b) (b == 45) h
    (λ k. or_cases (is_in_range 48 57 b || is_in_range 65 90 b) (is_in_range 97 122 b) k
    (λ m. or_cases (is_in_range 48 57 b) (is_in_range 65 90 b) m (λ d. let le : b ≤ 57 = up_to 48 57 b d in omega arith) (λ u. let le : b ≤ 90 = up_to 65 90 b u in omega arith))
    (λ l. let le : b ≤ 122 = up_to 97 122 b l in omega arith))
    (λ dash. let is : b ≡ 45 = eqb-true b 45 dash in omega arith))
    (λ line. let is : b ≡ 95 = eqb-true b 95 line in omega arith)

quoted_byte : (b : ℕ) → is_quoted_byte b ≡ true → b < 128
quoted_byte b e = or_cases (is_name_byte b) (b == 46) e (λ h. name_byte b h) (λ dot. let is : b ≡ 46 = eqb-true b 46 dot in omega arith)

pub letters_text : (xs : List ℕ) → list_all is_ascii_alphabetic xs ≡ true → IsUtf8 xs
letters_text = text_of is_ascii_alphabetic letter

pub name_text : (n : List ℕ) → is_name n ≡ true → IsUtf8 n
name_text n e = text_of is_name_byte name_byte n (and_second (not (length n == 0)) (list_all is_name_byte n) e)

pub quoted_text : (inner : List ℕ) → bytes_eq inner (codes "*") ≡ false → is_index inner ≡ false → is_inside inner ≡ true → IsUtf8 (take (length inner - 1 - 1) (drop 1 inner))
quoted_text inner no_star no_index e =
    let same : length inner - 2 ≡ length inner - 1 - 1 = omega arith in
    subst (λ n. IsUtf8 (take n (drop 1 inner))) same
    (or_cases (bytes_eq inner (codes "*") || is_index inner) (is_in_quotes inner) e (λ h. absurd (no_true (sym (neither (bytes_eq inner (codes "*")) (is_index inner) no_star no_index) ∙ h)))
    (λ quotes. or_cases (is_between 39 inner) (is_between 34 inner) quotes (between 39) (between 34)))
  where
    m : List ℕ
    m = take (length inner - 2) (drop 1 inner)

    neither : (a b : Bool) → a ≡ false → b ≡ false → (a || b) ≡ false
    neither a b x y = rw (x, y) refl

    between : (quote : ℕ) → is_between quote inner ≡ true → IsUtf8 m
    between quote h = text_of is_quoted_byte quoted_byte m (and_second (bytes_eq inner (quote ∷ m ++ quote ∷ []) && not (length m == 0)) (list_all is_quoted_byte m) h)

-- the number that at most nine digits write

digits_take : (i : ℕ) (ds : List ℕ) → all_ascii_digits ds ≡ true → all_ascii_digits (take i ds) ≡ true
digits_take zero ds all = refl
digits_take (suc i) [] all = refl
digits_take (suc i) (d ∷ ds) all =
    rw (and_first (is_ascii_digit d) (all_ascii_digits ds) all) (digits_take i ds (and_second (is_ascii_digit d) (all_ascii_digits ds) all))

pub number_so_far : (i : ℕ) (ds : List ℕ) → all_ascii_digits ds ≡ true → length ds ≤ 9 → i < length ds → number_of (take i ds) < 10 ^ 8
number_so_far i ds all short lt =
    let long : length (take i ds) ≤ 8 = omega (arith, length-take {A = ℕ}) in
    digits_value_short decimal_model (take i ds) 8 (digits_take i ds all) long

pub digit_of : (i : ℕ) (ds : List ℕ) → all_ascii_digits ds ≡ true → i < length ds → IsInRange 48 57 (get_or ds i 0)
digit_of i ds all lt = digit_at ds i (decimal_model.to ds all) lt

-- the first part

in_a_row : (tail : List ℕ) → (length tail == 0) ≡ false → is_tail (parts ∷ []) tail ≡ true → is_tail (part ∷ parts ∷ []) tail ≡ true
in_a_row tail some all = sym (more_parts tail some) ∙ all

not_empty_before : (tail r : List ℕ) → length r < length tail → (length tail == 0) ≡ false
not_empty_before tail r lt = ne_eqb (length tail) 0 (λ e. omega arith)

pub record IsDottedPart (tail n r : List ℕ) : Type 0 where
  pub named : is_name n ≡ true
  pub first : IsFirstPart tail (Name n) r

pub dotted_first : (tail n r : List ℕ) → is_tail (parts ∷ []) tail ≡ true → IsDotted tail n r → IsDottedPart tail n r
dotted_first tail n r all split =
    let shorter : length r < length tail = behind_dotted tail n r split in
    let both : (is_name n && is_tail (parts ∷ []) r) ≡ true = sym (dotted_part tail n r split (parts ∷ [])) ∙ in_a_row tail (not_empty_before tail r shorter) all in
    record {
      named = and_first (is_name n) (is_tail (parts ∷ []) r) both;
      first = record { parsed = ap (parts_from 0) split.text_is ∙ after_name_at n r split.within split.stops; allowed = and_second (is_name n) (is_tail (parts ∷ []) r) both; shorter = shorter };
    }

pub record IsBracketedPart (tail inner r : List ℕ) : Type 0 where
  pub inside : is_inside inner ≡ true
  pub first : IsFirstPart tail (bracketed inner) r

pub bracketed_first : (tail inner r : List ℕ) → is_tail (parts ∷ []) tail ≡ true → IsBracketed tail inner r → IsBracketedPart tail inner r
bracketed_first tail inner r all split =
    let shorter : length r < length tail = behind_bracketed tail inner r split in
    let both : (is_inside inner && is_tail (parts ∷ []) r) ≡ true = sym (bracketed_part tail inner r split (parts ∷ [])) ∙ in_a_row tail (not_empty_before tail r shorter) all in
    record {
      inside = and_first (is_inside inner) (is_tail (parts ∷ []) r) both;
      first = record { parsed = ap (parts_from 0) split.text_is ∙ after_bracket_at inner r split.within; allowed = and_second (is_inside inner) (is_tail (parts ∷ []) r) both; shorter = shorter };
    }

pub none_first : (tail : List ℕ) → is_tail (parts ∷ []) tail ≡ true → begins_dotted tail ≡ false → begins_bracketed tail ≡ false → tail ≡ []
none_first [] all no_dot no_bracket = refl
none_first (b ∷ bs) all no_dot no_bracket = absurd (no_true (sym (unbegun_part (b ∷ bs) (parts ∷ []) no_dot no_bracket) ∙ all))

-- the reference as a whole
pub whole_reference : (inner head tail spelling : List ℕ) (ps : List Part) → SplitsAt is_ascii_alphabetic inner head tail → spelling ≡ codes "$(" ++ inner ++ codes ")" → ps ≡ Name head ∷ parts_from 0 tail
    → record { spelling = spelling; parts = ps } ≡ reference_of inner
whole_reference inner head tail spelling ps split spelling_is parts_are =
    let with_spelling : List ℕ → Reference = λ s. record { spelling = s; parts = ps } in
    let with_parts : List Part → Reference = λ qs. record { spelling = codes "$(" ++ (head ++ tail) ++ codes ")"; parts = qs } in
    ap with_spelling (spelling_is ∙ ap (λ t. codes "$(" ++ t ++ codes ")") split.text_is) ∙ (ap with_parts parts_are ∙ sym (reference_of_split inner head tail split))
