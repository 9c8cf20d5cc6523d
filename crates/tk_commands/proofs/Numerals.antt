-- What `parse` reads of a numeral.
use Rattle.std.proofs.Common.{◌≡◌, ℕ, ◌<◌, ◌^◌, Bool, true, List, [], ◌∷◌, length, Option, Some, None, Result, Ok, Err, arith, nat_lt, ◌&&◌, refl, rules}
use Rattle.std.specs.Prelude.{if◌then◌else◌}
use Rattle.std.specs.List.{list_all}
use Rattle.std.specs.Char.{is_ascii_digit}
use Rattle.std.specs.Result.{OkIff, result_ok}
use Rattle.std.specs.Str.Parse.{digits_value, ParsesUnsigned}
use Rattle.std.proofs.lemmas.Grind.{common_steps}
use Rattle.std.proofs.lemmas.Str.Parse.{IsNumeralModel, numerals_by_value, parse_digits}
use Rattle.tk_commands.specs.GenerateWords.{is_numeral, numeral_told}

digits : IsNumeralModel (λ ds. list_all is_ascii_digit ds ≡ true) (digits_value 10)
digits = numerals_by_value _ (search rules)

read_below : {E : Type 0} (r : Result ℕ E) (n limit long : ℕ) → 0 < long → OkIff r ((0 < long) × (n < limit)) n → result_ok r ≡ (if nat_lt n limit then Some n else None)
read_below (Ok x) n limit long some (fits, same) = let below : n < limit = fits.1 in grind (arith, same, below)
read_below (Err e) n limit long some none = let beyond : n < limit → ⊥ = λ below. none (some, below) in grind (arith, beyond)

all_of : (word : List ℕ) → is_numeral word ≡ true → list_all is_ascii_digit word ≡ true
all_of word h = grind (arith, common_steps, h)

some_of : (word : List ℕ) → is_numeral word ≡ true → 0 < length word
some_of [] h = cc
some_of (d ∷ word) h = omega arith

told_if : (told : Bool) (word : List ℕ) (o : Option ℕ) → is_numeral word ≡ true → (if told then o else None) ≡ (if is_numeral word && told then o else None)
told_if told word o h = rw h refl

pub parsed_numeral : {E : Type 0} (word : List ℕ) (r : Result ℕ E) → ParsesUnsigned 64 10 word r → is_numeral word ≡ true → result_ok r ≡ numeral_told word
parsed_numeral word r h is =
    let below : result_ok r ≡ (if nat_lt (digits_value 10 word) (2 ^ 64) then Some (digits_value 10 word) else None)
    = read_below r (digits_value 10 word) (2 ^ 64) (length word) (some_of word is) (parse_digits digits 64 word r h (all_of word is)) in
    rw is below
