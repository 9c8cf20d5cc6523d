-- What may stand in brackets, as a test of its bytes.
use Rattle.std.proofs.Common.{◌≡◌, ℕ, zero, suc, ◌+◌, ◌-◌, ◌^◌, ◌<◌, ◌≤◌, List, [], ◌∷◌, ◌++◌, length, take, drop, get_or, refl, sym, ◌∙◌, ap, subst, Bool, true, false, ◌&&◌, ◌||◌, not, ltb, arith, append_assoc, length-append}
use Rattle.std.specs.Prelude.{bytes_eq, codes, decimal, nat_le, slice_index, if◌then◌else◌, ◌==◌}
use Rattle.std.specs.Char.{is_ascii_digit}
use Rattle.std.specs.List.{list_any, list_all}
use Rattle.std.specs.Str.{all_ascii_digits}
use Rattle.std.proofs.lemmas.Bool.{ltb-true, lt-ltb, eqb-false, le-leb, leb-true, ne_eqb}
use Rattle.std.proofs.lemmas.Fmt.{digits_decimal, decimal_digit, decimal_nonempty, first_decimal, length-decimal-le, decimal-digits_value}
use Rattle.std.proofs.lemmas.Str.Parse.{digits_value_short}
use Rattle.tk_vars.specs.declared.part.Part.{Part}
use Rattle.tk_vars.specs.declared.part.Part.TheVariants.{Name, Index, Star}
use Rattle.tk_vars.specs.Grammar.{is_name_byte, is_quoted_byte, text_where, dotted, quoted, indexed, part_spellings, selector_spellings}
use Rattle.tk_vars.specs.Reading.{number_of, bracketed}
use Rattle.tk_vars.specs.Steps.{is_name, is_index, is_between, is_in_quotes, is_choice, is_inside}
use Rattle.tk_vars.proofs.TextFacts.{and_first, and_second, same_text}
use Rattle.tk_vars.proofs.PartFacts.{decimal_model}
use Rattle.tk_vars.proofs.TailFacts.{same_test, and_both, never, same_bytes, same_front, list_any-append}

no_true : false ≡ true → ⊥
no_true e = cc

pub not_empty : (b : ℕ) (bs : List ℕ) → (length (b ∷ bs) == 0) ≡ false
not_empty b bs = ne_eqb (length (b ∷ bs)) 0 (λ e. omega arith)

-- a name behind a dot

pub name_test : (n : List ℕ) → list_any (bytes_eq (46 ∷ n)) (dotted n) ≡ is_name n
name_test [] = refl
name_test (b ∷ bs) = by_test (list_all is_name_byte (b ∷ bs))
  where
    by_test : (r : Bool) → list_any (bytes_eq (46 ∷ b ∷ bs)) (text_where r (codes "." ++ b ∷ bs)) ≡ (not (length (b ∷ bs) == 0) && r)
    by_test true = rw (not_empty b bs, same_bytes (46 ∷ b ∷ bs) (46 ∷ b ∷ bs) refl) refl
    by_test false = rw (not_empty b bs) refl

no_quote : (n : List ℕ) → list_any (bytes_eq (46 ∷ n)) (quoted n) ≡ false
no_quote [] = refl
no_quote (b ∷ bs) = by_test (list_all is_quoted_byte (b ∷ bs))
  where
    by_test : (r : Bool) → list_any (bytes_eq (46 ∷ b ∷ bs)) (text_where r (codes "['" ++ b ∷ bs ++ codes "']") ++ text_where r (codes "[\"" ++ b ∷ bs ++ codes "\"]")) ≡ false
    by_test true = refl
    by_test false = refl

pub dotted_part_test : (n : List ℕ) → list_any (bytes_eq (46 ∷ n)) (part_spellings (Name n)) ≡ is_name n
dotted_part_test n =
    list_any-append (bytes_eq (46 ∷ n)) (dotted n) (quoted n) ∙ (ap (λ r. list_any (bytes_eq (46 ∷ n)) (dotted n) || r) (no_quote n) ∙ (or_false (list_any (bytes_eq (46 ∷ n)) (dotted n)) ∙ name_test n))
  where
    or_false : (a : Bool) → (a || false) ≡ a
    or_false true = refl
    or_false false = refl

no_dot : (z n : List ℕ) → list_any (bytes_eq (91 ∷ z)) (dotted n) ≡ false
no_dot z [] = refl
no_dot z (b ∷ bs) = by_test (list_all is_name_byte (b ∷ bs))
  where
    by_test : (r : Bool) → list_any (bytes_eq (91 ∷ z)) (text_where r (codes "." ++ b ∷ bs)) ≡ false
    by_test true = refl
    by_test false = refl

-- an index

all_digits : (ds : List ℕ) → list_all is_ascii_digit ds ≡ all_ascii_digits ds
all_digits [] = refl
all_digits (d ∷ ds) = ap (λ r. is_ascii_digit d && r) (all_digits ds)

pub same_end : (xs ys : List ℕ) (z : ℕ) → xs ++ z ∷ [] ≡ ys ++ z ∷ [] → xs ≡ ys
same_end xs ys z e =
    let long : length xs + 1 ≡ length ys + 1 = sym (length-append xs (z ∷ [])) ∙ (ap length e ∙ length-append ys (z ∷ [])) in
    same_front xs (z ∷ []) ys (z ∷ []) e (omega arith)

pub or_second : (a b : Bool) → b ≡ true → (a || b) ≡ true
or_second true b e = refl
or_second false b e = e

decimal_is_index : (v : ℕ) → v < 10 ^ 9 → is_index (decimal v) ≡ true
decimal_is_index zero small = rw (decimal_digit 0 (omega arith)) refl
decimal_is_index (suc k) small =
    let v : ℕ = suc k in
    let fits : v < 2 ^ 64 = omega arith in
    let some : 0 < length (decimal v) = decimal_nonempty v fits in
    let first : 48 < get_or (decimal v) 0 0 = first_decimal v (omega arith) fits in
    let short : length (decimal v) ≤ 9 = length-decimal-le 9 v (omega arith) small fits in
    or_second (bytes_eq (decimal v) (codes "0")) (((not (length (decimal v) == 0) && not (slice_index (decimal v) 0 == 48)) && nat_le (length (decimal v)) 9) && list_all is_ascii_digit (decimal v))
    (and_both ((not (length (decimal v) == 0) && not (slice_index (decimal v) 0 == 48)) && nat_le (length (decimal v)) 9) (list_all is_ascii_digit (decimal v))
    (and_both (not (length (decimal v) == 0) && not (slice_index (decimal v) 0 == 48)) (nat_le (length (decimal v)) 9)
    (and_both (not (length (decimal v) == 0)) (not (slice_index (decimal v) 0 == 48)) (ap not (ne_eqb (length (decimal v)) 0 (λ e. omega arith))) (ap not (ne_eqb (get_or (decimal v) 0 0) 48 (λ e. omega arith))))
    (le-leb (length (decimal v)) 9 short))
    (all_digits (decimal v) ∙ digits_decimal decimal_model v fits))

pub or_cases : {A : Type 0} (a b : Bool) → (a || b) ≡ true → (a ≡ true → A) → (b ≡ true → A) → A
or_cases true b e first second = first refl
or_cases false b e first second = second e

flip : (b : Bool) → not b ≡ true → b ≡ false
flip true e = sym e
flip false e = refl

positive : (n : ℕ) → (n ≡ 0 → ⊥) → 0 < n
positive zero h = absurd (h refl)
positive (suc n) h = omega arith

-- digits of an index
pub record IsIndex (inner : List ℕ) : Type 0 where
  pub some : 0 < length inner
  pub first : get_or inner 0 0 ≡ 48 → length inner ≡ 1
  pub short : length inner ≤ 9
  pub digits : all_ascii_digits inner ≡ true

pub index_facts : (inner : List ℕ) → is_index inner ≡ true → IsIndex inner
index_facts inner e = or_cases (bytes_eq inner (codes "0")) (((not (length inner == 0) && not (slice_index inner 0 == 48)) && nat_le (length inner) 9) && list_all is_ascii_digit inner) e zero_alone more
  where
    zero_alone : bytes_eq inner (codes "0") ≡ true → IsIndex inner
    zero_alone same = subst IsIndex (sym (same_text inner (codes "0") same)) (record { some = omega arith; first = λ h. refl; short = omega arith; digits = refl })

    more : (((not (length inner == 0) && not (slice_index inner 0 == 48)) && nat_le (length inner) 9) && list_all is_ascii_digit inner) ≡ true → IsIndex inner
    more all =
        let front : ((not (length inner == 0) && not (slice_index inner 0 == 48)) && nat_le (length inner) 9) ≡ true = and_first _ (list_all is_ascii_digit inner) all in
        let both : (not (length inner == 0) && not (slice_index inner 0 == 48)) ≡ true = and_first _ (nat_le (length inner) 9) front in
        let some : length inner ≡ 0 → ⊥ = eqb-false (length inner) 0 (flip (length inner == 0) (and_first (not (length inner == 0)) (not (slice_index inner 0 == 48)) both)) in
        let first : get_or inner 0 0 ≡ 48 → ⊥ = eqb-false (get_or inner 0 0) 48 (flip (slice_index inner 0 == 48) (and_second (not (length inner == 0)) (not (slice_index inner 0 == 48)) both)) in
        record {
          some = positive (length inner) some;
          first = λ h. absurd (first h);
          short = leb-true (length inner) 9 (and_second (not (length inner == 0) && not (slice_index inner 0 == 48)) (nat_le (length inner) 9) front);
          digits = sym (all_digits inner) ∙ and_second ((not (length inner == 0) && not (slice_index inner 0 == 48)) && nat_le (length inner) 9) (list_all is_ascii_digit inner) all;
        }

pub index_small : (inner : List ℕ) → is_index inner ≡ true → number_of inner < 10 ^ 9
index_small inner e = let facts : IsIndex inner = index_facts inner e in digits_value_short decimal_model inner 9 facts.digits facts.short

pub index_decimal : (inner : List ℕ) → is_index inner ≡ true → decimal (number_of inner) ≡ inner
index_decimal inner e =
    let facts : IsIndex inner = index_facts inner e in
    let small : number_of inner < 10 ^ 9 = index_small inner e in
    decimal-digits_value decimal_model inner facts.digits facts.some facts.first (omega arith)

index_test : (inner : List ℕ) → list_any (bytes_eq (91 ∷ inner ++ 93 ∷ [])) (indexed (number_of inner)) ≡ is_index inner
index_test inner = same_test (list_any (bytes_eq (91 ∷ inner ++ 93 ∷ [])) (indexed (number_of inner))) (is_index inner) (to (ltb (number_of inner) (10 ^ 9)) refl) from
  where
    v : ℕ
    v = number_of inner

    to : (r : Bool) → ltb v (10 ^ 9) ≡ r → list_any (bytes_eq (91 ∷ inner ++ 93 ∷ [])) (text_where r (codes "[" ++ decimal v ++ codes "]")) ≡ true → is_index inner ≡ true
    to false e found = absurd (no_true found)
    to true e found = or_cases (bytes_eq (inner ++ 93 ∷ []) (decimal v ++ 93 ∷ [])) false found here (λ h. absurd (no_true h))
      where
        here : bytes_eq (inner ++ 93 ∷ []) (decimal v ++ 93 ∷ []) ≡ true → is_index inner ≡ true
        here same =
            let is : inner ≡ decimal v = same_end inner (decimal v) 93 (same_text (inner ++ 93 ∷ []) (decimal v ++ 93 ∷ []) same) in
            ap is_index is ∙ decimal_is_index v (ltb-true v (10 ^ 9) e)

    from : is_index inner ≡ true → list_any (bytes_eq (91 ∷ inner ++ 93 ∷ [])) (text_where (ltb v (10 ^ 9)) (codes "[" ++ decimal v ++ codes "]")) ≡ true
    from e =
        let small : ltb v (10 ^ 9) ≡ true = lt-ltb v (10 ^ 9) (index_small inner e) in
        let same : bytes_eq (inner ++ 93 ∷ []) (decimal v ++ 93 ∷ []) ≡ true = same_bytes (inner ++ 93 ∷ []) (decimal v ++ 93 ∷ []) (ap (λ ds. ds ++ 93 ∷ []) (sym (index_decimal inner e))) in
        ap (λ r. list_any (bytes_eq (91 ∷ inner ++ 93 ∷ [])) (text_where r (codes "[" ++ decimal v ++ codes "]"))) small ∙ ap (λ r. r || false) same

-- a name in quotes

abbrev between : ℕ → List ℕ → List ℕ → Bool
between quote inner middle = bytes_eq inner (quote ∷ middle ++ quote ∷ []) && not (length middle == 0) && list_all is_quoted_byte middle

quote_test : (quote : ℕ) (inner m : List ℕ) → bytes_eq (inner ++ 93 ∷ []) (quote ∷ m ++ quote ∷ 93 ∷ []) ≡ bytes_eq inner (quote ∷ m ++ quote ∷ [])
quote_test quote inner m =
    let text : (quote ∷ m ++ quote ∷ []) ++ 93 ∷ [] ≡ quote ∷ m ++ quote ∷ 93 ∷ [] = ap (λ zs. quote ∷ zs) (append_assoc m (quote ∷ []) (93 ∷ [])) in
    same_test (bytes_eq (inner ++ 93 ∷ []) (quote ∷ m ++ quote ∷ 93 ∷ [])) (bytes_eq inner (quote ∷ m ++ quote ∷ []))
    (λ e. same_bytes inner (quote ∷ m ++ quote ∷ []) (same_end inner (quote ∷ m ++ quote ∷ []) 93 (same_text (inner ++ 93 ∷ []) (quote ∷ m ++ quote ∷ 93 ∷ []) e ∙ sym text)))
    (λ e. same_bytes (inner ++ 93 ∷ []) (quote ∷ m ++ quote ∷ 93 ∷ []) (ap (λ zs. zs ++ 93 ∷ []) (same_text inner (quote ∷ m ++ quote ∷ []) e) ∙ text))

quoted_test : (inner m : List ℕ) → list_any (bytes_eq (91 ∷ inner ++ 93 ∷ [])) (quoted m) ≡ (between 39 inner m || between 34 inner m)
quoted_test inner [] = nothing (bytes_eq inner (39 ∷ 39 ∷ [])) (bytes_eq inner (34 ∷ 34 ∷ []))
  where
    nothing : (a b : Bool) → false ≡ (((a && false) && true) || ((b && false) && true))
    nothing true true = refl
    nothing true false = refl
    nothing false true = refl
    nothing false false = refl
quoted_test inner (b ∷ bs) = by_test (list_all is_quoted_byte (b ∷ bs))
  where
    m : List ℕ
    m = b ∷ bs

    left : Bool
    left = bytes_eq inner (39 ∷ m ++ 39 ∷ [])

    right : Bool
    right = bytes_eq inner (34 ∷ m ++ 34 ∷ [])

    both : (a c : Bool) → (a || (c || false)) ≡ (((a && true) && true) || ((c && true) && true))
    both true c = refl
    both false true = refl
    both false false = refl

    neither : (a c : Bool) → false ≡ (((a && true) && false) || ((c && true) && false))
    neither true true = refl
    neither true false = refl
    neither false true = refl
    neither false false = refl

    by_test : (r : Bool) → list_any (bytes_eq (91 ∷ inner ++ 93 ∷ [])) (text_where r (codes "['" ++ m ++ codes "']") ++ text_where r (codes "[\"" ++ m ++ codes "\"]"))
        ≡ (((left && not (length m == 0)) && r) || ((right && not (length m == 0)) && r))
    by_test true = rw (not_empty b bs) (ap (λ r. r || (bytes_eq (inner ++ 93 ∷ []) (34 ∷ m ++ 34 ∷ 93 ∷ []) || false)) (quote_test 39 inner m) ∙ (ap (λ r. left || (r || false)) (quote_test 34 inner m) ∙ both left right))
    by_test false = rw (not_empty b bs) (neither left right)

no_quotes : (quote : ℕ) (inner : List ℕ) → is_ascii_digit quote ≡ false → all_ascii_digits inner ≡ true → is_between quote inner ≡ false
no_quotes quote inner other digits = never (is_between quote inner) bad
  where
    m : List ℕ
    m = take (length inner - 2) (drop 1 inner)

    bad : is_between quote inner ≡ true → ⊥
    bad e =
        let same : inner ≡ quote ∷ m ++ quote ∷ [] = same_text inner (quote ∷ m ++ quote ∷ []) (and_first (bytes_eq inner (quote ∷ m ++ quote ∷ [])) (not (length m == 0)) (and_first (bytes_eq inner (quote ∷ m ++ quote ∷ []) && not (length m == 0)) (list_all is_quoted_byte m) e)) in
        let first : is_ascii_digit quote ≡ true = and_first (is_ascii_digit quote) (all_ascii_digits (m ++ quote ∷ [])) (subst (λ ds. all_ascii_digits ds ≡ true) same digits) in
        no_true (sym other ∙ first)

-- what stands in brackets is one of the three

abbrev pub of_kind : Bool → Bool → List ℕ → Part
of_kind star digits inner = if star then Star else if digits then Index (number_of inner) else Name (take (length inner - 2) (drop 1 inner))

pub record IsBracketTest (inner : List ℕ) : Type 0 where
  pub as_part : list_any (bytes_eq (91 ∷ inner ++ 93 ∷ [])) (part_spellings (bracketed inner)) ≡ is_inside inner
  pub as_selector : list_any (bytes_eq (91 ∷ inner ++ 93 ∷ [])) (selector_spellings (bracketed inner ∷ [])) ≡ is_choice inner

pub bracket_test : (inner : List ℕ) → IsBracketTest inner
bracket_test inner = by_kind (bytes_eq inner (codes "*")) (all_ascii_digits inner) refl refl
  where
    m : List ℕ
    m = take (length inner - 2) (drop 1 inner)

    by_kind : (star digits : Bool) → bytes_eq inner (codes "*") ≡ star → all_ascii_digits inner ≡ digits → IsBracketTest inner
    by_kind true digits e f = subst IsBracketTest (sym (same_text inner (codes "*") e)) (record { as_part = refl; as_selector = refl })
    by_kind false true e f =
        let is : bracketed inner ≡ Index (number_of inner) = rw (e, f) refl in
        let choice : is_index inner ≡ is_choice inner = rw e refl in
        let inside : is_index inner ≡ is_inside inner = rw (e, no_quotes 39 inner refl f, no_quotes 34 inner refl f) (sym (or_false (is_index inner))) in
        record {
          as_part = ap (λ p. list_any (bytes_eq (91 ∷ inner ++ 93 ∷ [])) (part_spellings p)) is ∙ (index_test inner ∙ inside);
          as_selector = ap (λ p. list_any (bytes_eq (91 ∷ inner ++ 93 ∷ [])) (selector_spellings (p ∷ []))) is ∙ (index_test inner ∙ choice);
        }
      where
        or_false : (a : Bool) → (a || false) ≡ a
        or_false true = refl
        or_false false = refl
    by_kind false false e f =
        let is : bracketed inner ≡ Name m = rw (e, f) refl in
        let no_index : is_index inner ≡ false = never (is_index inner) (λ h. no_true (sym f ∙ (index_facts inner h).digits)) in
        let choice : false ≡ is_choice inner = rw (e, no_index) refl in
        let inside : is_in_quotes inner ≡ is_inside inner = rw (e, no_index) refl in
        let quotes : list_any (bytes_eq (91 ∷ inner ++ 93 ∷ [])) (part_spellings (Name m)) ≡ is_in_quotes inner =
        list_any-append (bytes_eq (91 ∷ inner ++ 93 ∷ [])) (dotted m) (quoted m) ∙ (ap (λ r. r || list_any (bytes_eq (91 ∷ inner ++ 93 ∷ [])) (quoted m)) (no_dot (inner ++ 93 ∷ []) m) ∙ quoted_test inner m) in
        record {
          as_part = ap (λ p. list_any (bytes_eq (91 ∷ inner ++ 93 ∷ [])) (part_spellings p)) is ∙ (quotes ∙ inside);
          as_selector = ap (λ p. list_any (bytes_eq (91 ∷ inner ++ 93 ∷ [])) (selector_spellings (p ∷ []))) is ∙ (no_dot (inner ++ 93 ∷ []) m ∙ choice);
        }
