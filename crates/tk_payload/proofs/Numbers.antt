-- A number that is written in decimal is read again.
use Rattle.std.proofs.Common.{◌≡◌, ℕ, ◌<◌, ◌^◌, true, ◌&&◌, nat_lt, List, length, Some, None, Result, Ok, Err, decimal, refl, rules, ltb-true, inl, inr}
use Rattle.std.specs.Char.{is_ascii_digit}
use Rattle.std.specs.List.{list_all}
use Rattle.std.specs.Str.Parse.{digits_value, ParsesUnsigned}
use Rattle.std.proofs.lemmas.Bool.{and_parts, cases_Bool, lt-ltb}
use Rattle.std.proofs.lemmas.Fmt.{decimal_is_IsNumeral, IsAscii-decimal}
use Rattle.std.proofs.lemmas.Str.{IsUtf8-from_ascii}
use Rattle.std.proofs.lemmas.Str.Parse.{IsNumeralModel, numerals_by_value, parse_digits}
use Rattle.std.specs.Prelude.{OnOk}
use Rattle.json.proofs.Printed.Decimals.{IsNumber-decimal}
use Rattle.tk_payload.specs.Forms.{count}
use Rattle.tk_payload.specs.Sound.{IsSound}
use Rattle.tk_payload.specs.Steps.{number_of}

abbrev pub AreDigits : List ℕ → Type 0
AreDigits text = list_all is_ascii_digit text ≡ true

pub digits_model : IsNumeralModel AreDigits (digits_value 10)
digits_model = numerals_by_value AreDigits (search rules)

-- what isn't parsed is no number below 2 ^ bits
pub not_parsed : {E : Type 0} (bits : ℕ) (text : List ℕ) (e : E) → AreDigits text → ParsesUnsigned bits 10 text (Err e) → number_of bits text ≡ None
not_parsed bits text e digits h =
    let none = parse_digits digits_model bits text (Err e) h digits in
    elim (cases_Bool (list_all is_ascii_digit text && nat_lt 0 (length text) && nat_lt (digits_value 10 text) (2 ^ bits))) [
      | inl below ↦ let p = and_parts _ _ below in absurd (none (ltb-true _ _ (and_parts _ _ p.0).1, ltb-true _ _ p.1))
      | inr above ↦ rw above refl
    ]

-- a number that is written is read
pub number_again : (bits n : ℕ) → n < 2 ^ bits → n < 2 ^ 64 → number_of bits (decimal n) ≡ Some n
number_again bits n h small =
    let numeral = decimal_is_IsNumeral n small in
    let digits : AreDigits (decimal n) = digits_model.from (decimal n) numeral.0.1 in
    let some : nat_lt 0 (length (decimal n)) ≡ true = lt-ltb _ _ numeral.0.0 in
    rw (digits, some, numeral.1, lt-ltb _ _ h) refl

-- a number in decimal is a number of JSON
pub decimal_sound : {E : Type 0} (r : Result (Unit {0}) E) (n : ℕ) → n < 2 ^ 64 → OnOk r (IsSound (count n))
decimal_sound (Ok x) n h = (IsNumber-decimal n h, IsUtf8-from_ascii _ (IsAscii-decimal n h))
decimal_sound (Err e) n h = tt
