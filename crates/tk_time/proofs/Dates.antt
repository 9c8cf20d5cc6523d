-- The date that is counted off is the calendar's date of that day.
use Rattle.std.proofs.Common.{◌≡◌, ℕ, zero, suc, ◌+◌, ◌-◌, ◌<◌, ◌≤◌, Bool, true, false, cond, nat_lt, refl, sym, ◌∙◌, arith, pos, ◌+ℤ◌}
use Rattle.std.proofs.lemmas.Int.{by_lt_z}
use Rattle.std.proofs.lemmas.Bool.Decides.{nat_tests}
use Rattle.jiff_core.specs.declared.civil.date.Date.{Date}
use Rattle.jiff_core.specs.Calendar.{days_in_year, days_in_month, days_of_months, day_count, days_from_civil}
use Rattle.jiff_core.specs.Date.{epoch_day, IsYmd}
use Rattle.jiff_core.proofs.SignedLemmas.{signed_arith}
use Rattle.jiff_core.proofs.CalendarLemmas.{day_count-epoch, days_from_civil-day_count, days_in_year_bounds, days_of_months-zero, days_of_months_more, days_of_months_all, day_count-day_of_year, day_count-next_year, day_count-later_year, day_count-end}
use Rattle.jiff_core.proofs.DateLemmas.{epoch_day_injective}
use Rattle.tk_time.specs.Moment.{year_after, month_after, year_of, month_of, day_of}

-- ---- the year
record YearFound (year days : ℕ) (r : ℕ × ℕ) : Type 0 where
  later : year ≤ r.0
  inside : r.1 < days_in_year (pos r.0)
  count : day_count (pos r.0) 1 1 + r.1 ≡ day_count (pos year) 1 1 + days

year_turn : (year days : ℕ) (r : ℕ × ℕ) (b : Bool) → nat_lt days (days_in_year (pos year)) ≡ b → (b ≡ false → YearFound (year + 1) (days - days_in_year (pos year)) r) → YearFound year days (cond b (year, days) r)
year_turn year days r true here more =
    record { later = omega arith; inside = grind (arith, nat_tests); count = refl }
year_turn year days r false here more =
    let found = more refl in
    let past : days_in_year (pos year) ≤ days = grind (arith, nat_tests) in
    let next : pos (year + 1) ≡ pos year +ℤ pos 1 = omega (arith, signed_arith) in
    let after = day_count-next_year (pos year) (pos (year + 1)) (omega (arith, signed_arith)) next in
    record { later = omega (arith, found.later); inside = found.inside; count = omega (arith, found.count) }

year_found : (most year days : ℕ) → days ≤ most → YearFound year days (year_after most year days)
unfolding year_after
year_found zero year days h =
    record { later = omega arith; inside = omega (arith, days_in_year_bounds (pos year)); count = refl }
year_found (suc most) year days h =
    let long = days_in_year_bounds (pos year) in
    year_turn year days (year_after most (year + 1) (days - days_in_year (pos year))) (nat_lt days (days_in_year (pos year))) refl (λ e. year_found most (year + 1) (days - days_in_year (pos year)) (omega arith))

-- ---- the month
record MonthFound (year month days : ℕ) (r : ℕ × ℕ) : Type 0 where
  low : month ≤ r.0
  high : r.0 ≤ 12
  first : 1 ≤ r.1
  last : r.1 ≤ days_in_month (pos year) r.0
  count : days_of_months (pos year) (r.0 - 1) + r.1 ≡ days_of_months (pos year) (month - 1) + days + 1

month_turn : (year month days : ℕ) (r : ℕ × ℕ) (b : Bool) → nat_lt days (days_in_month (pos year) month) ≡ b → 1 ≤ month → month ≤ 12 → (b ≡ false → MonthFound year (month + 1) (days - days_in_month (pos year) month) r) → MonthFound year month days (cond b (month, days + 1) r)
month_turn year month days r true here low high more =
    record { low = omega arith; high = high; first = omega arith; last = grind (arith, nat_tests); count = omega arith }
month_turn year month days r false here low high more =
    let found = more refl in
    let past : days_in_month (pos year) month ≤ days = grind (arith, nat_tests) in
    let back : month + 1 - 1 ≡ month = omega arith in
    let count = rw back at found.count in
    record { low = omega (arith, found.low); high = found.high; first = found.first; last = found.last; count = omega (arith, count, days_of_months_more (pos year) month low) }

month_found : (most year month days : ℕ) → 1 ≤ month → month + most ≡ 12 → days_of_months (pos year) (month - 1) + days < days_in_year (pos year) → MonthFound year month days (month_after most year month days)
unfolding month_after
month_found zero year month days low all h =
    let december : month ≡ 12 = omega arith in
    let whole : days_of_months (pos year) month ≡ days_in_year (pos year) = rw december (days_of_months_all (pos year)) in
    record { low = omega arith; high = omega arith; first = omega arith; last = omega (arith, days_of_months_more (pos year) month low); count = omega arith }
month_found (suc most) year month days low all h =
    let back : month + 1 - 1 ≡ month = omega arith in
    month_turn year month days (month_after most year (month + 1) (days - days_in_month (pos year) month)) (nat_lt days (days_in_month (pos year) month)) refl low (omega arith)
    (λ e. let past : days_in_month (pos year) month ≤ days = grind (arith, nat_tests) in
    month_found most year (month + 1) (days - days_in_month (pos year) month) (omega arith) (omega arith) (rw back (omega (arith, days_of_months_more (pos year) month low))))

-- ---- the date
pub record DateFound (day : ℕ) : Type 0 where
  pub from : 1970 ≤ year_of day
  pub till : year_of day ≤ 9999
  pub low : 1 ≤ month_of day
  pub high : month_of day ≤ 12
  pub first : 1 ≤ day_of day
  pub last : day_of day ≤ days_in_month (pos (year_of day)) (month_of day)
  pub count : days_from_civil (pos (year_of day)) (month_of day) (day_of day) ≡ pos day

date_at : (day : ℕ) (y : ℕ × ℕ) (m : ℕ × ℕ) → day ≤ 2932896 → YearFound 1970 day y → MonthFound y.0 1 y.1 m → (y.0 ≤ 9999) × (days_from_civil (pos y.0) m.0 m.1 ≡ pos day)
date_at day y m h year month =
    let start = days_of_months-zero (pos y.0) in
    let place = day_count-day_of_year (pos y.0) m.0 m.1 month.first in
    let count : day_count (pos y.0) m.0 m.1 ≡ 4371953 + day = omega (arith, year.count, month.count, day_count-epoch) in (
      by_lt_z (pos 9999) (pos y.0)
          (λ lt. absurd (omega (arith, signed_arith, day_count-later_year (pos 9999) (pos y.0) (omega (arith, signed_arith)) lt, day_count-next_year (pos 9999) (pos 10000) (omega (arith, signed_arith)) (omega (arith, signed_arith)), day_count-end, year.count, day_count-epoch)))
          (λ le. omega (arith, signed_arith)),
      omega (arith, signed_arith, days_from_civil-day_count (pos y.0) m.0 m.1),
    )

pub date_found : (day : ℕ) → day ≤ 2932896 → DateFound day
date_found day h =
    let y = year_found day 1970 day (omega arith) in
    let m = month_found 11 (year_of day) 1 (year_after day 1970 day).1 (omega arith) refl (omega (arith, y.inside, days_of_months-zero (pos (year_of day)))) in
    let d = date_at day (year_after day 1970 day) (month_after 11 (year_of day) 1 (year_after day 1970 day).1) h y m in
    record { from = y.later; till = d.0; low = m.low; high = m.high; first = m.first; last = m.last; count = d.1 }

-- the calendar has one date for a day
pub date_parts : (d : Date) (day : ℕ) → day ≤ 2932896 → epoch_day d ≡ pos day → (d.year ≡ pos (year_of day)) × (d.month ≡ month_of day) × (d.day ≡ day_of day)
date_parts d day h is =
    let f = date_found day h in
    let ours : Date = record { year = pos (year_of day); month = month_of day; day = day_of day; year_in = omega (arith, signed_arith, f.from, f.till); month_in = (f.low, f.high); day_in = (f.first, f.last) } in
    epoch_day_injective d ours (is ∙ sym f.count)

-- 1 January 1970 is day 0
pub first_day : (d : Date) → IsYmd (pos 1970) (pos 1) (pos 1) d → epoch_day d ≡ pos 0
first_day d is =
    let month : d.month ≡ 1 = omega (arith, signed_arith, is.1) in
    let day : d.day ≡ 1 = omega (arith, signed_arith, is.2) in
    rw (is.0, month, day) (omega (arith, signed_arith, days_from_civil-day_count (pos 1970) 1 1, day_count-epoch))
