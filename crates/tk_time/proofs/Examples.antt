-- Durations and moments that are known.
use Rattle.std.proofs.Common.{◌≡◌, [], refl}
use Rattle.std.specs.Prelude.{codes, Some, None}
use Rattle.std.specs.Fmt.{digits}
use Rattle.tk_time.specs.Duration.{unit_at, part_with, sum_of_parts, duration_of, duration_text}
use Rattle.tk_time.specs.Moment.{year_after, month_after, moment_text, has_form, moment_of}

hour_and_a_half : duration_of (codes "1h30m") ≡ Some 5400000
unfolding unit_at part_with sum_of_parts
hour_and_a_half = refl

ten_minutes : duration_of (codes "10m0s") ≡ Some 600000
unfolding unit_at part_with sum_of_parts
ten_minutes = refl

nothing : duration_of (codes "0") ≡ Some 0
nothing = refl

milliseconds : duration_of (codes "5ms") ≡ Some 5
unfolding unit_at part_with sum_of_parts
milliseconds = refl

-- a part's digits may begin with zeros, and no digits at all are no duration
leading_zero : duration_of (codes "05s") ≡ Some 5000
unfolding unit_at part_with sum_of_parts
leading_zero = refl

two_zeros : duration_of (codes "00") ≡ None
unfolding unit_at part_with sum_of_parts
two_zeros = refl

minutes_then_letter : duration_of (codes "5mm") ≡ None
unfolding unit_at part_with sum_of_parts
minutes_then_letter = refl

fraction : duration_of (codes "1.5h") ≡ None
unfolding unit_at part_with sum_of_parts
fraction = refl

no_unit : duration_of (codes "5") ≡ None
unfolding unit_at part_with sum_of_parts
no_unit = refl

sign : duration_of (codes "-1s") ≡ None
unfolding unit_at part_with sum_of_parts
sign = refl

empty_text : duration_of [] ≡ None
empty_text = refl

one_year : duration_of (codes "8760h") ≡ Some 31536000000
unfolding unit_at part_with sum_of_parts
one_year = refl

over_a_year : duration_of (codes "8760h1ms") ≡ None
unfolding unit_at part_with sum_of_parts
over_a_year = refl

eleven_digits : duration_of (codes "00000000001s") ≡ Some 1000
unfolding unit_at part_with sum_of_parts
eleven_digits = refl

twelve_digits : duration_of (codes "000000000001s") ≡ None
unfolding unit_at part_with sum_of_parts
twelve_digits = refl

printed : duration_text 5400000 ≡ codes "1h30m"
unfolding digits
printed = refl

printed_rest : duration_text 61001 ≡ codes "1m1s1ms"
unfolding digits
printed_rest = refl

leap_day : moment_text 951782400123 ≡ codes "2000-02-29T00:00:00.123Z"
unfolding year_after month_after
leap_day = refl

first_moment : moment_text 0 ≡ codes "1970-01-01T00:00:00.000Z"
unfolding year_after month_after
first_moment = refl

last_of_2100 : moment_text 4133980799999 ≡ codes "2100-12-31T23:59:59.999Z"
unfolding year_after month_after
last_of_2100 = refl

no_such_day : moment_of (codes "2100-02-29T00:00:00.000Z") ≡ None
unfolding has_form moment_of
no_such_day = refl
