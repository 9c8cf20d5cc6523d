use Rattle.std.proofs.Common.{arith, w64, to_z, ◌≡◌, ◌∙◌, pos, ◌+ℤ◌}
use Rattle.jiff.proofs.SpanFacts.{signed_arith, date_add-days, can_add-days}
use Rattle.jiff_core.proofs.SignedLemmas.{signed_casts}
use Rattle.jiff.specs.Words.{epoch_day, IsEpochDay}
use Rattle.std.proofs.lemmas.Result.{IfOk-at_ok}
use Rattle.tk_time.proofs.Dates.{first_day}
use Rattle.tk_time.proofs.moment.date_of.Goals as goal

pub unwrap-requires : goal.unwrap-requires
unwrap-requires c =
    let start = first_day c.date.result c.date.ensures in
    let small : to_z w64 c.args.day ≡ pos c.args.day = omega (arith, signed_casts) in
    let can = can_add-days c.date.result (to_z w64 c.args.day) c.days.result c.days.ensures in
    let inside : IsEpochDay (epoch_day c.date.result +ℤ to_z w64 c.args.day) = omega (arith, signed_arith) in
    c.checked_add.ensures.succeeds.1 (can.1 inside)

pub returns : goal.returns
returns c =
    let start = first_day c.date.result c.date.ensures in
    let small : to_z w64 c.args.day ≡ pos c.args.day = omega (arith, signed_casts) in
    let added = date_add-days c.date.result (to_z w64 c.args.day) c.days.result c.days.ensures in
    let value = IfOk-at_ok _ c.unwrap.ensures c.checked_add.ensures.value in
    value ∙ (added ∙ omega (arith, signed_arith))
