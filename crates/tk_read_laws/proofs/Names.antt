-- A prefix and five digits are the name of an object.
use Rattle.std.proofs.Common.{◌≡◌, ℕ, ◌+◌, ◌-◌, ◌<◌, ◌≤◌, ◌/◌, ◌%◌, ◌^◌, Bool, true, false, ◌&&◌, List, [], ◌∷◌, ◌++◌, length, Some, refl, ap, ◌∙◌, arith}
use Rattle.std.specs.Prelude.{nat_le}
use Rattle.std.specs.Char.{digit_char}
use Rattle.std.specs.List.{list_all, slice_get}
use Rattle.std.specs.Option.{option_map_or}
use Rattle.std.proofs.lemmas.Bool.{agree_below_at, and_from, and_parts, le-leb, leb-true, or_left}
use Rattle.std.proofs.lemmas.List.{get_or-append-add, length-append}
use Rattle.std.proofs.lemmas.List.Folds.{list_all-append}
use Rattle.std.proofs.lemmas.Option.{slice_get-get_or}
use Rattle.tk_names.specs.Children.{base_36, generated}
use Rattle.tk_names.specs.Rules.{first_is, is_label_byte, is_lower_or_digit, is_name_prefix, is_object_name, is_object_name_byte, last_is}

digit_is_plain : (counter place : ℕ) → is_lower_or_digit (base_36 counter place) ≡ true
digit_is_plain counter place =
    agree_below_at (λ d. is_lower_or_digit (digit_char d)) (λ d. true) 36 (counter / 36 ^ place % 36) refl (omega arith)

plain_is_byte : (b : ℕ) → is_lower_or_digit b ≡ true → is_object_name_byte b ≡ true
plain_is_byte b is = or_left (is_label_byte b) _ (or_left (is_lower_or_digit b) _ is)

all_bytes : (a b c d e : ℕ) → is_lower_or_digit a ≡ true → is_lower_or_digit b ≡ true → is_lower_or_digit c ≡ true → is_lower_or_digit d ≡ true → is_lower_or_digit e ≡ true
    → list_all is_object_name_byte (a ∷ b ∷ c ∷ d ∷ e ∷ []) ≡ true
all_bytes a b c d e ha hb hc hd he =
    and_from _ _ (plain_is_byte a ha) (and_from _ _ (plain_is_byte b hb) (and_from _ _ (plain_is_byte c hc) (and_from _ _ (plain_is_byte d hd) (and_from _ _ (plain_is_byte e he) refl))))

first_stays : (test : ℕ → Bool) (start rest : List ℕ) → first_is test start ≡ true → first_is test (start ++ rest) ≡ true
first_stays test [] rest is = absurd (let f : ⊥ = cc in f)
first_stays test (x ∷ xs) rest is = is

last_of : (test : ℕ → Bool) (start : List ℕ) (a b c d e : ℕ) → test e ≡ true → last_is test (start ++ a ∷ b ∷ c ∷ d ∷ e ∷ []) ≡ true
last_of test start a b c d e is =
    let five = a ∷ b ∷ c ∷ d ∷ e ∷ [] in
    let all = start ++ five in
    let long : length all ≡ length start + 5 = length-append start five in
    let place : length all - 1 ≡ length start + 4 = omega (arith, long) in
    let inside : length start + 4 < length all = omega (arith, long) in
    let there : slice_get all (length start + 4) ≡ Some e = slice_get-get_or all (length start + 4) e inside ∙ ap (λ x. Some x) (get_or-append-add start five 4 e) in
    ap (λ o. option_map_or test o false) (ap (slice_get all) place ∙ there) ∙ is

named_by : (start : List ℕ) (a b c d e : ℕ) → is_name_prefix start ≡ true → is_lower_or_digit a ≡ true → is_lower_or_digit b ≡ true → is_lower_or_digit c ≡ true → is_lower_or_digit d ≡ true → is_lower_or_digit e ≡ true
    → is_object_name (start ++ a ∷ b ∷ c ∷ d ∷ e ∷ []) ≡ true
named_by start a b c d e is ha hb hc hd he =
    let five = a ∷ b ∷ c ∷ d ∷ e ∷ [] in
    let all = start ++ five in
    let long : length all ≡ length start + 5 = length-append start five in
    let (front, first) = and_parts (nat_le (length start) 248 && list_all is_object_name_byte start) (first_is is_lower_or_digit start) is in
    let (short, bytes) = and_parts (nat_le (length start) 248) (list_all is_object_name_byte start) front in
    let few : length start ≤ 248 = leb-true (length start) 248 short in
    and_from _ _
    (and_from _ _
    (and_from _ _ (le-leb (length all) 253 (omega (arith, long)))
    (list_all-append is_object_name_byte start five ∙ and_from _ _ bytes (all_bytes a b c d e ha hb hc hd he)))
    (first_stays is_lower_or_digit start five first))
    (last_of is_lower_or_digit start a b c d e he)

pub generated_is_name : (start : List ℕ) (counter : ℕ) → is_name_prefix start ≡ true → is_object_name (generated start counter) ≡ true
generated_is_name start counter is =
    named_by start (base_36 counter 4) (base_36 counter 3) (base_36 counter 2) (base_36 counter 1) (base_36 counter 0) is
    (digit_is_plain counter 4) (digit_is_plain counter 3) (digit_is_plain counter 2) (digit_is_plain counter 1) (digit_is_plain counter 0)
