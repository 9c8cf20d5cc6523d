-- The text of a moment names that moment.
use Rattle.std.proofs.Common.{◌≡◌, ℕ, ◌+◌, ◌*◌, ◌/◌, ◌%◌, ◌<◌, ◌≤◌, List, ◌++◌, true, Some, refl, ap, ◌∙◌, arith, pos}
use Rattle.std.specs.Prelude.{codes, nat_le, ◌&&◌}
use Rattle.std.specs.Char.{is_ascii_digit}
use Rattle.std.proofs.lemmas.Bool.Decides.{nat_tests}
use Rattle.jiff_core.specs.Calendar.{days_from_civil}
use Rattle.jiff_core.proofs.CalendarLemmas.{days_in_month_bounds}
use Rattle.tk_time.specs.Duration.{number_of}
use Rattle.tk_time.specs.Moment.{digit, two, three, four, date_text, clock_text, moment_text, last_moment, has_form, is_date, is_time, millis_of, moment_of_parts, moment_of, year_of, month_of, day_of}
use Rattle.tk_time.proofs.Dates.{DateFound, date_found}

digit_is : (n : ℕ) → is_ascii_digit (digit n) ≡ true
digit_is n = grind (arith, nat_tests)

number_two : (n : ℕ) → n < 100 → number_of (two n) ≡ n
number_two n h = omega arith

number_three : (n : ℕ) → n < 1000 → number_of (three n) ≡ n
number_three n h = omega arith

number_four : (n : ℕ) → n < 10000 → number_of (four n) ≡ n
number_four n h = omega arith

abbrev text_of : ℕ → ℕ → ℕ → ℕ → ℕ → ℕ → ℕ → List ℕ
text_of year month day hour minute second milli =
    date_text year month day ++ codes "T" ++ clock_text hour minute second ++ codes "." ++ three milli ++ codes "Z"

form_of : (y m d h i s k : ℕ) → has_form (codes "dddd-dd-ddTdd:dd:dd.dddZ") (text_of y m d h i s k) ≡ true
unfolding has_form
form_of y m d h i s k = simp digit_is

parts_read : (y m d h i s k : ℕ) → y < 10000 → m < 100 → d < 100 → h < 100 → i < 100 → s < 100 → k < 1000 → moment_of (text_of y m d h i s k) ≡ moment_of_parts y m d h i s k
unfolding moment_of
parts_read y m d h i s k ly lm ld lh li ls lk =
    rw (form_of y m d h i s k, number_four y ly, number_two m lm, number_two d ld, number_two h lh, number_two i li, number_two s ls, number_three k lk) refl

valid : (y m d h i s k : ℕ) → is_date y m d ≡ true → is_time h i s ≡ true → moment_of_parts y m d h i s k ≡ Some (millis_of y m d h i s k)
valid y m d h i s k date time = rw (date, time) refl

total : (millis : ℕ) → millis / 86400000 * 86400000 + millis / 3600000 % 24 * 3600000 + millis / 60000 % 60 * 60000 + millis / 1000 % 60 * 1000 + millis % 1000 ≡ millis
total millis = omega arith

five_hold : (y m d n : ℕ) → 1970 ≤ y → 1 ≤ m → m ≤ 12 → 1 ≤ d → d ≤ n → (nat_le 1970 y && nat_le 1 m && nat_le m 12 && nat_le 1 d && nat_le d n) ≡ true
five_hold y m d n a b c e f = grind (arith, nat_tests)

time_is : (millis : ℕ) → is_time (millis / 3600000 % 24) (millis / 60000 % 60) (millis / 1000 % 60) ≡ true
time_is millis = grind (arith, nat_tests)

-- a date and a time name the moment whose day and time of day they are
named : (y m d day h i s k : ℕ) → days_from_civil (pos y) m d ≡ pos day → millis_of y m d h i s k ≡ day * 86400000 + h * 3600000 + i * 60000 + s * 1000 + k
named y m d day h i s k is = rw is refl

pub moment_text-read : (millis : ℕ) → millis ≤ last_moment → moment_of (moment_text millis) ≡ Some millis
moment_text-read millis h =
    let day = millis / 86400000 in
    let f : DateFound day = date_found day (omega arith) in
    let bound = days_in_month_bounds (pos (year_of day)) (month_of day) in
    parts_read (year_of day) (month_of day) (day_of day) (millis / 3600000 % 24) (millis / 60000 % 60) (millis / 1000 % 60) (millis % 1000) (omega arith) (omega arith) (omega arith) (omega arith) (omega arith) (omega arith) (omega arith)
    ∙ (valid (year_of day) (month_of day) (day_of day) (millis / 3600000 % 24) (millis / 60000 % 60) (millis / 1000 % 60) (millis % 1000) (five_hold (year_of day) (month_of day) (day_of day) _ f.from f.low f.high f.first f.last) (time_is millis)
    ∙ ap Some (named (year_of day) (month_of day) (day_of day) day (millis / 3600000 % 24) (millis / 60000 % 60) (millis / 1000 % 60) (millis % 1000) f.count ∙ total millis))
