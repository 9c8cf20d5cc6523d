-- The parts that a spelling is read as are those that it spells.
use Rattle.std.proofs.Common.{◌&&◌, ◌≡◌, ℕ, suc, ◌+◌, ◌-◌, ◌*◌, ◌^◌, ◌<◌, List, [], ◌∷◌, ◌++◌, length, take, refl, sym, ◌∙◌, ap, subst, Bool, true, false, ◌||◌, not, ltb, arith, append_assoc, length-append}
use Rattle.std.specs.Char.{is_ascii_digit}
use Rattle.std.specs.Prelude.{bytes_eq, fold, codes, decimal, ◌==◌}
use Rattle.std.specs.List.{list_all, AllByRecursion}
use Rattle.std.specs.Str.{all_ascii_digits}
use Rattle.std.proofs.Math.Seq.{take-append_seam}
use Rattle.std.proofs.lemmas.Bool.{ltb-true}
use Rattle.std.proofs.lemmas.List.{append-nil}
use Rattle.std.proofs.lemmas.Fmt.{digits_decimal, digits_value-decimal}
use Rattle.std.proofs.lemmas.Str.Parse.{IsNumeralModel, numerals_by_fold, tells_all_ascii_digits}
use Rattle.tk_vars.specs.declared.part.Part.{Part}
use Rattle.tk_vars.specs.declared.part.Part.TheVariants.{Name, Index, Star}
use Rattle.tk_vars.specs.Grammar.{Slot, word, name, part, parts, selector, is_name_byte, is_quoted_byte, text_where, dotted, quoted, indexed, part_spellings, joins, selector_spellings, parts_spellings, slots_spellings}
use Rattle.tk_vars.specs.Reading.{number_of, bracketed, part_at, parts_from}
use Rattle.tk_vars.specs.Steps.{opens, StopsAt, in_name, in_bracket, in_reference, begins_dotted, begins_bracketed}
use Rattle.tk_vars.proofs.TextFacts.{and_first, and_second, all_pass, other_byte, append-all, take_while-stops, each-append, each-joins, each-where, each-if}

-- a byte that stands inside a reference: neither its end nor a beginning of another
abbrev pub is_inner : ℕ → Bool
is_inner c = in_reference c && not (c == 36)

-- how many bytes the first part of a text takes
abbrev pub part_len : List ℕ → ℕ
part_len [] = 0
part_len (b ∷ bs) = suc (part_at b bs).1

-- the text begins with a dot, or with a bracket that ends
abbrev pub begins : List ℕ → Bool
begins x = begins_dotted x || begins_bracketed x

-- the text is read as this part and stays inside the reference
pub record SpellsPart (p : Part) (x : List ℕ) : Type 0 where
  pub opening : opens x ≡ true
  pub begun : begins x ≡ true
  pub long : (y : List ℕ) → StopsAt in_name y → part_len (x ++ y) ≡ length x
  pub inside : list_all is_inner x ≡ true
  pub parsed : (y : List ℕ) → StopsAt in_name y → parts_from 0 (x ++ y) ≡ p ∷ parts_from 0 y

-- the text is read as these parts, and so on
pub record SpellsParts (ps : List Part) (x : List ℕ) : Type 0 where
  pub follows : StopsAt in_name x
  pub inside : list_all is_inner x ≡ true
  pub parsed : parts_from 0 x ≡ ps

name_bytes : (b : ℕ) → is_name_byte b ≡ true → in_name b ≡ true
name_bytes b e = rw (other_byte is_name_byte 46 refl b e, other_byte is_name_byte 91 refl b e) refl

inside_names : (b : ℕ) → is_name_byte b ≡ true → is_inner b ≡ true
inside_names b e = rw (other_byte is_name_byte 41 refl b e, other_byte is_name_byte 36 refl b e) refl

quoted_bytes : (b : ℕ) → is_quoted_byte b ≡ true → in_bracket b ≡ true
quoted_bytes b e = rw (other_byte is_quoted_byte 93 refl b e) refl

inside_quotes : (b : ℕ) → is_quoted_byte b ≡ true → is_inner b ≡ true
inside_quotes b e = rw (other_byte is_quoted_byte 41 refl b e, other_byte is_quoted_byte 36 refl b e) refl

-- what stands before is passed over
skipped : (xs ys : List ℕ) → parts_from (length xs) (xs ++ ys) ≡ parts_from 0 ys
skipped [] ys = refl
skipped (x ∷ xs) ys = skipped xs ys

one_part : (b : ℕ) (bs : List ℕ) (p : Part) (n : ℕ) → part_at b bs ≡ (p, n) → parts_from 0 (b ∷ bs) ≡ p ∷ parts_from n bs
one_part b bs p n e = ap (λ (next : Part × ℕ). next.0 ∷ parts_from next.1 bs) e

-- a name up to the next part
pub name_at : (n y : List ℕ) → list_all in_name n ≡ true → StopsAt in_name y → part_at 46 (n ++ y) ≡ (Name n, length n)
name_at n y all stops = ap (λ (w : List ℕ). let pair : Part × ℕ = (Name w, length w) in pair) (take_while-stops in_name n y all stops)

pub after_name_at : (n y : List ℕ) → list_all in_name n ≡ true → StopsAt in_name y → parts_from 0 (46 ∷ n ++ y) ≡ Name n ∷ parts_from 0 y
after_name_at n y all stops = one_part 46 (n ++ y) (Name n) (length n) (name_at n y all stops) ∙ ap (λ ps. Name n ∷ ps) (skipped n y)

-- a bracket that ends
pub bracket_at : (inner y : List ℕ) → list_all in_bracket inner ≡ true → part_at 91 (inner ++ 93 ∷ y) ≡ (bracketed inner, length inner + 1)
bracket_at inner y all = ap (λ (w : List ℕ). let pair : Part × ℕ = (bracketed w, length w + 1) in pair) (take_while-stops in_bracket inner (93 ∷ y) all refl)

pub after_bracket_at : (inner y : List ℕ) → list_all in_bracket inner ≡ true → parts_from 0 (91 ∷ inner ++ 93 ∷ y) ≡ bracketed inner ∷ parts_from 0 y
after_bracket_at inner y all =
    let long : length inner + 1 ≡ length (inner ++ 93 ∷ []) = sym (length-append inner (93 ∷ [])) in
    one_part 91 (inner ++ 93 ∷ y) (bracketed inner) (length inner + 1) (bracket_at inner y all)
    ∙ ap (λ ps. bracketed inner ∷ ps)
    (ap (λ n. parts_from n (inner ++ 93 ∷ y)) long ∙ (ap (parts_from (length (inner ++ 93 ∷ []))) (sym (append_assoc inner (93 ∷ []) y)) ∙ skipped (inner ++ 93 ∷ []) y))

-- a bracket that ends has its end
ends_in : (inner y : List ℕ) → not (list_all in_bracket (inner ++ 93 ∷ y)) ≡ true
ends_in [] y = refl
ends_in (b ∷ bs) y = either (in_bracket b) (list_all in_bracket (bs ++ 93 ∷ y)) (ends_in bs y)
  where
    either : (q r : Bool) → not r ≡ true → not (q && r) ≡ true
    either true r e = e
    either false r e = refl

dotted_name : (n : List ℕ) → list_all is_name_byte n ≡ true → SpellsPart (Name n) (codes "." ++ n)
dotted_name n all =
    record {
      opening = refl;
      inside = all_pass is_name_byte is_inner inside_names n all;
      begun = refl;
      long = λ y stops. ap (λ (next : Part × ℕ). suc next.1) (name_at n y (all_pass is_name_byte in_name name_bytes n all) stops);
      parsed = λ y stops. after_name_at n y (all_pass is_name_byte in_name name_bytes n all) stops;
    }

-- a bracket with this inside
bracket : (p : Part) (inner : List ℕ) → bracketed inner ≡ p → list_all in_bracket inner ≡ true → list_all is_inner inner ≡ true → SpellsPart p (91 ∷ inner ++ 93 ∷ [])
bracket p inner is all inside =
    record {
      opening = refl;
      inside = append-all is_inner inner (93 ∷ []) inside refl;
      begun = ends_in inner [];
      long = λ y stops.
          let text : (91 ∷ inner ++ 93 ∷ []) ++ y ≡ 91 ∷ (inner ++ 93 ∷ y) = ap (λ zs. 91 ∷ zs) (append_assoc inner (93 ∷ []) y) in
          let taken : part_len (91 ∷ (inner ++ 93 ∷ y)) ≡ suc (length inner + 1) = ap (λ (next : Part × ℕ). suc next.1) (bracket_at inner y all) in
          ap part_len text ∙ (taken ∙ ap suc (sym (length-append inner (93 ∷ []))));
      parsed = λ y stops.
          let text : (91 ∷ inner ++ 93 ∷ []) ++ y ≡ 91 ∷ (inner ++ 93 ∷ y) = ap (λ zs. 91 ∷ zs) (append_assoc inner (93 ∷ []) y) in
          ap (parts_from 0) text ∙ (after_bracket_at inner y all ∙ ap (λ q. q ∷ parts_from 0 y) is);
    }

-- a name in quotes of this kind
in_quotes : (quote : ℕ) (n : List ℕ) → bytes_eq (quote ∷ n ++ quote ∷ []) (codes "*") ≡ false → all_ascii_digits (quote ∷ n ++ quote ∷ []) ≡ false
    → in_bracket quote ≡ true → is_inner quote ≡ true → list_all is_quoted_byte n ≡ true → SpellsPart (Name n) (91 ∷ quote ∷ n ++ quote ∷ 93 ∷ [])
in_quotes quote n no_star no_digits kept kept_inside all =
    let inner : List ℕ = quote ∷ n ++ quote ∷ [] in
    let long : length inner - 2 ≡ length n = rw (length-append n (quote ∷ [])) (omega arith) in
    let middle : take (length inner - 2) (n ++ quote ∷ []) ≡ n = ap (λ k. take k (n ++ quote ∷ [])) long ∙ take-append_seam n (quote ∷ []) in
    let is : bracketed inner ≡ Name n = rw (no_star, no_digits) (ap Name middle) in
    let text : 91 ∷ inner ++ 93 ∷ [] ≡ 91 ∷ quote ∷ n ++ quote ∷ 93 ∷ [] = ap (λ zs. 91 ∷ quote ∷ zs) (append_assoc n (quote ∷ []) (93 ∷ [])) in
    subst (SpellsPart (Name n)) text
    (bracket (Name n) inner is
    (rw kept (append-all in_bracket n (quote ∷ []) (all_pass is_quoted_byte in_bracket quoted_bytes n all) (rw kept refl)))
    (rw kept_inside (append-all is_inner n (quote ∷ []) (all_pass is_quoted_byte is_inner inside_quotes n all) (rw kept_inside refl))))

-- digits

abbrev pub decimal_model : IsNumeralModel (λ ds. all_ascii_digits ds ≡ true) number_of
decimal_model =
    numerals_by_fold (λ ds. all_ascii_digits ds ≡ true) tells_all_ascii_digits (λ n ds. fold (λ n d. n * 10 + (d - 48)) n ds) (record { empty = λ n. refl; more = λ n c cs h. refl })

digits_pass : (q : ℕ → Bool) → ((b : ℕ) → is_ascii_digit b ≡ true → q b ≡ true) → (ds : List ℕ) → all_ascii_digits ds ≡ true → list_all q ds ≡ true
digits_pass q implies [] all = refl
digits_pass q implies (d ∷ ds) all =
    rw (implies d (and_first (is_ascii_digit d) (all_ascii_digits ds) all)) (digits_pass q implies ds (and_second (is_ascii_digit d) (all_ascii_digits ds) all))

pub no_star : (ds : List ℕ) → all_ascii_digits ds ≡ true → bytes_eq ds (codes "*") ≡ false
no_star [] all = refl
no_star (d ∷ ds) all = rw (other_byte is_ascii_digit 42 refl d (and_first (is_ascii_digit d) (all_ascii_digits ds) all)) refl

index_in_brackets : (i : ℕ) → i < 10 ^ 9 → SpellsPart (Index i) (91 ∷ decimal i ++ 93 ∷ [])
index_in_brackets i small =
    let fits : i < 2 ^ 64 = omega arith in
    let digits : all_ascii_digits (decimal i) ≡ true = digits_decimal decimal_model i fits in
    let value : number_of (decimal i) ≡ i = digits_value-decimal decimal_model i fits in
    let is : bracketed (decimal i) ≡ Index i = rw (no_star (decimal i) digits, digits) (ap Index value) in
    bracket (Index i) (decimal i) is
    (digits_pass in_bracket (λ b e. rw (other_byte is_ascii_digit 93 refl b e) refl) (decimal i) digits)
    (digits_pass is_inner (λ b e. rw (other_byte is_ascii_digit 41 refl b e, other_byte is_ascii_digit 36 refl b e) refl) (decimal i) digits)

-- each spelling of a part spells it

pub dotted_spells : (n : List ℕ) → AllByRecursion (SpellsPart (Name n)) (dotted n)
dotted_spells [] = tt
dotted_spells (b ∷ bs) = each-where (SpellsPart (Name (b ∷ bs))) (list_all is_name_byte (b ∷ bs)) (codes "." ++ b ∷ bs) (dotted_name (b ∷ bs))

quoted_spells : (n : List ℕ) → AllByRecursion (SpellsPart (Name n)) (quoted n)
quoted_spells [] = tt
quoted_spells (b ∷ bs) =
    let n : List ℕ = b ∷ bs in
    each-append (SpellsPart (Name n)) (text_where (list_all is_quoted_byte n) (codes "['" ++ n ++ codes "']")) (text_where (list_all is_quoted_byte n) (codes "[\"" ++ n ++ codes "\"]"))
    (each-where (SpellsPart (Name n)) (list_all is_quoted_byte n) (codes "['" ++ n ++ codes "']") (in_quotes 39 n refl refl refl refl))
    (each-where (SpellsPart (Name n)) (list_all is_quoted_byte n) (codes "[\"" ++ n ++ codes "\"]") (in_quotes 34 n refl refl refl refl))

pub indexed_spells : (i : ℕ) → AllByRecursion (SpellsPart (Index i)) (indexed i)
indexed_spells i = each-where (SpellsPart (Index i)) (ltb i (10 ^ 9)) (codes "[" ++ decimal i ++ codes "]") (λ small. index_in_brackets i (ltb-true i (10 ^ 9) small))

star_spells : SpellsPart Star (codes "[*]")
star_spells = bracket Star (codes "*") refl refl refl

pub part_spells : (p : Part) → AllByRecursion (SpellsPart p) (part_spellings p)
part_spells (Name n) = each-append (SpellsPart (Name n)) (dotted n) (quoted n) (dotted_spells n) (quoted_spells n)
part_spells (Index i) = indexed_spells i
part_spells Star = (star_spells, tt)

-- each spelling of parts in a row spells them

join_parts : (p : Part) (ps : List Part) (x y : List ℕ) → SpellsPart p x → SpellsParts ps y → SpellsParts (p ∷ ps) (x ++ y)
join_parts p ps [] y first rest = absurd_opening first.opening
  where
    absurd_opening : false ≡ true → SpellsParts (p ∷ ps) y
    absurd_opening e = cc
join_parts p ps (b ∷ bs) y first rest =
    record {
      follows = rw first.opening refl;
      inside = append-all is_inner (b ∷ bs) y first.inside rest.inside;
      parsed = first.parsed y rest.follows ∙ ap (λ qs. p ∷ qs) rest.parsed;
    }

no_parts : SpellsParts [] []
no_parts = record { follows = tt; inside = refl; parsed = refl }

alone : (p : Part) (x : List ℕ) → SpellsPart p x → SpellsParts (p ∷ []) x
alone p x first = subst (SpellsParts (p ∷ [])) (append-nil x) (join_parts p [] x [] first no_parts)

each_alone : (p : Part) (xs : List (List ℕ)) → AllByRecursion (SpellsPart p) xs → AllByRecursion (SpellsParts (p ∷ [])) xs
each_alone p [] all = tt
each_alone p (x ∷ xs) all = (alone p x all.0, each_alone p xs all.1)

each_joined : (p : Part) (ps : List Part) (xs ys : List (List ℕ)) → AllByRecursion (SpellsPart p) xs → AllByRecursion (SpellsParts ps) ys → AllByRecursion (SpellsParts (p ∷ ps)) (joins xs ys)
each_joined p ps xs ys = each-joins (SpellsPart p) (SpellsParts ps) (SpellsParts (p ∷ ps)) xs ys (join_parts p ps)

pub selector_spells : (ps : List Part) → AllByRecursion (SpellsParts ps) (selector_spellings ps)
selector_spells [] = (no_parts, tt)
selector_spells (Name key ∷ []) = each_alone (Name key) (dotted key) (dotted_spells key)
selector_spells (Index i ∷ []) = each_alone (Index i) (indexed i) (indexed_spells i)
selector_spells (Star ∷ []) = (alone Star (codes "[*]") star_spells, tt)
selector_spells _ = tt

pub parts_spell : (ps : List Part) → AllByRecursion (SpellsParts ps) (parts_spellings ps)
parts_spell [] = (no_parts, tt)
parts_spell (p ∷ ps) = each_joined p ps (part_spellings p) (parts_spellings ps) (part_spells p) (parts_spell ps)

pub slots_spell : (slots : List Slot) (ps : List Part) → AllByRecursion (SpellsParts ps) (slots_spellings slots ps)
slots_spell [] [] = (no_parts, tt)
slots_spell (word w ∷ slots) (Name n ∷ ps) =
    each-if (SpellsParts (Name n ∷ ps)) (bytes_eq n w) (joins (dotted n) (slots_spellings slots ps)) (λ same. each_joined (Name n) ps (dotted n) (slots_spellings slots ps) (dotted_spells n) (slots_spell slots ps))
slots_spell (name ∷ slots) (Name n ∷ ps) = each_joined (Name n) ps (dotted n) (slots_spellings slots ps) (dotted_spells n) (slots_spell slots ps)
slots_spell (part ∷ slots) (p ∷ ps) = each_joined p ps (part_spellings p) (slots_spellings slots ps) (part_spells p) (slots_spell slots ps)
slots_spell (parts ∷ []) ps = parts_spell ps
slots_spell (selector ∷ []) ps = selector_spells ps
slots_spell _ _ = tt
