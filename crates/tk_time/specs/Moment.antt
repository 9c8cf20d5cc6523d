-- The text of a moment in Coordinated Universal Time, by the Gregorian calendar (ISO 8601).
use Rattle.std.specs.Prelude.{ℕ, zero, suc, ◌+◌, ◌-◌, ◌*◌, ◌/◌, ◌%◌, ◌==◌, Bool, true, false, nat_lt, nat_le, ◌&&◌, if◌then◌else◌, List, [], ◌∷◌, ◌++◌, take, drop, Option, Some, None, codes, pos, unsigned_abs}
use Rattle.std.specs.Char.{is_ascii_digit}
use Rattle.jiff_core.specs.Calendar.{days_in_year, days_in_month, days_from_civil}
use Rattle.tk_time.specs.Duration.{number_of}

-- 9999-12-31T23:59:59.999Z
abbrev pub last_moment : ℕ
last_moment = 253402300799999

-- ---- the date of a day: whole years, and then whole months, are counted off
-- the year of a day that is so many days behind the first of a year, and its place in that year from 0; at most so many years are tried
unfoldable pub year_after : ℕ → ℕ → ℕ → ℕ × ℕ
year_after zero year days = (year, days)
year_after (suc more) year days =
    if nat_lt days (days_in_year (pos year)) then (year, days)
    else year_after more (year + 1) (days - days_in_year (pos year))

-- the month of a day that is so many days behind the first of a month, and its place in that month from 1
unfoldable pub month_after : ℕ → ℕ → ℕ → ℕ → ℕ × ℕ
month_after zero year month days = (month, days + 1)
month_after (suc more) year month days =
    if nat_lt days (days_in_month (pos year) month) then (month, days + 1)
    else month_after more year (month + 1) (days - days_in_month (pos year) month)

-- the year of a day, counted from 0 for 1 January 1970
abbrev pub year_of : ℕ → ℕ
year_of day = (year_after day 1970 day).0

-- its month, and its day of the month
abbrev pub month_and_day : ℕ → ℕ × ℕ
month_and_day day = month_after 11 (year_of day) 1 (year_after day 1970 day).1

-- its month, from 1
abbrev pub month_of : ℕ → ℕ
month_of day = (month_and_day day).0

-- its day of the month, from 1
abbrev pub day_of : ℕ → ℕ
day_of day = (month_and_day day).1

-- ---- its text
-- the last digit of a number
abbrev pub digit : ℕ → ℕ
digit n = 48 + n % 10

-- its last two, three and four digits
abbrev pub two : ℕ → List ℕ
two n = digit (n / 10) ∷ digit n ∷ []

abbrev pub three : ℕ → List ℕ
three n = digit (n / 100) ∷ two n

abbrev pub four : ℕ → List ℕ
four n = digit (n / 1000) ∷ three n

-- the text of a date, as `2000-02-29`
abbrev pub date_text : ℕ → ℕ → ℕ → List ℕ
date_text year month day = four year ++ codes "-" ++ two month ++ codes "-" ++ two day

-- the text of a time, as `23:59:59`
abbrev pub clock_text : ℕ → ℕ → ℕ → List ℕ
clock_text hour minute second = two hour ++ codes ":" ++ two minute ++ codes ":" ++ two second

-- the text of a moment, in milliseconds since 1970-01-01T00:00:00.000Z
abbrev pub moment_text : ℕ → List ℕ
moment_text millis =
    date_text (year_of (millis / 86400000)) (month_of (millis / 86400000)) (day_of (millis / 86400000))
    ++ codes "T"
    ++ clock_text (millis / 3600000 % 24) (millis / 60000 % 60) (millis / 1000 % 60)
    ++ codes "."
    ++ three (millis % 1000)
    ++ codes "Z"

-- ---- what such a text says
-- the text has this form, in which `d` stands for a digit
unfoldable pub has_form : List ℕ → List ℕ → Bool
has_form [] [] = true
has_form (f ∷ fs) (b ∷ bs) = (if f == 100 then is_ascii_digit b else b == f) && has_form fs bs
has_form _ _ = false

-- the number of the digits from a place on
abbrev pub number_at : List ℕ → ℕ → ℕ → ℕ
number_at text place count = number_of (take count (drop place text))

-- the calendar has this date, from 1970 on
abbrev pub is_date : ℕ → ℕ → ℕ → Bool
is_date year month day = nat_le 1970 year && nat_le 1 month && nat_le month 12 && nat_le 1 day && nat_le day (days_in_month (pos year) month)

-- a clock shows this time
abbrev pub is_time : ℕ → ℕ → ℕ → Bool
is_time hour minute second = nat_lt hour 24 && nat_lt minute 60 && nat_lt second 60

-- the milliseconds of a date and a time
abbrev pub millis_of : ℕ → ℕ → ℕ → ℕ → ℕ → ℕ → ℕ → ℕ
millis_of year month day hour minute second milli =
    unsigned_abs (days_from_civil (pos year) month day) * 86400000 + hour * 3600000 + minute * 60000 + second * 1000 + milli

-- the same, if the calendar has the date and a clock shows the time
abbrev pub moment_of_parts : ℕ → ℕ → ℕ → ℕ → ℕ → ℕ → ℕ → Option ℕ
moment_of_parts year month day hour minute second milli =
    if is_date year month day && is_time hour minute second then Some (millis_of year month day hour minute second milli)
    else None

-- the moment that a text names, if it has the form and the calendar and the clock have its parts
unfoldable pub moment_of : List ℕ → Option ℕ
moment_of text =
    if has_form (codes "dddd-dd-ddTdd:dd:dd.dddZ") text
    then moment_of_parts (number_at text 0 4) (number_at text 5 2) (number_at text 8 2) (number_at text 11 2) (number_at text 14 2) (number_at text 17 2) (number_at text 20 3)
    else None
