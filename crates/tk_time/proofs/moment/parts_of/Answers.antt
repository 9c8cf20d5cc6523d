use Rattle.std.proofs.Common.{◌≡◌, pos, ap, ◌∙◌, unsigned_abs, arith, FitsSigned, w8, w16}
use Rattle.std.proofs.lemmas.Int.{to_z-of_z}
use Rattle.jiff_core.proofs.SignedLemmas.{signed_arith}
use Rattle.jiff_core.proofs.CalendarLemmas.{days_in_month_bounds}
use Rattle.tk_time.specs.Moment.{year_of, month_of, day_of}
use Rattle.tk_time.proofs.Dates.{date_found, date_parts}
use Rattle.tk_time.proofs.moment.parts_of.Goals as goal

pub returns-clause-year : goal.returns-clause-year
returns-clause-year c =
    let d = date_parts c.date_of-date.result c.args.day c.requires c.date_of-date.ensures in
    let f = date_found c.args.day c.requires in
    let is : c.year.result ≡ pos (year_of c.args.day) = c.year.ensures ∙ d.0 in
    let fits : FitsSigned w16 c.year.result = omega (arith, signed_arith) in
    let value = simp to_z-of_z at c.unsigned_abs.ensures.value in
    c.from.ensures ∙ (value ∙ ap unsigned_abs is)

pub returns-clause-month : goal.returns-clause-month
returns-clause-month c =
    let d = date_parts c.date_of-date.result c.args.day c.requires c.date_of-date.ensures in
    let f = date_found c.args.day c.requires in
    let is : c.month.result ≡ pos (month_of c.args.day) = c.month.ensures ∙ ap pos d.1 in
    let fits : FitsSigned w8 c.month.result = omega (arith, signed_arith) in
    let value = simp to_z-of_z at c.unsigned_abs-2.ensures.value in
    c.from-2.ensures ∙ (value ∙ ap unsigned_abs is)

pub returns-clause-day : goal.returns-clause-day
returns-clause-day c =
    let d = date_parts c.date_of-date.result c.args.day c.requires c.date_of-date.ensures in
    let f = date_found c.args.day c.requires in
    let is : c.day.result ≡ pos (day_of c.args.day) = c.day.ensures ∙ ap pos d.2 in
    let bound = days_in_month_bounds (pos (year_of c.args.day)) (month_of c.args.day) in
    let fits : FitsSigned w8 c.day.result = omega (arith, signed_arith) in
    let value = simp to_z-of_z at c.unsigned_abs-3.ensures.value in
    c.from-3.ensures ∙ (value ∙ ap unsigned_abs is)
