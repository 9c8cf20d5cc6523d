use Rattle.std.proofs.Common.{sym}
use Rattle.tk_payload.proofs.Numbers.{AreDigits, not_parsed}
use Rattle.tk_payload.proofs.number.u64_of.Goals as goal

pub returns-in-Err : goal.returns-in-Err
returns-in-Err c =
    let digits : AreDigits c.args.text.now = cc in
    sym (not_parsed 64 c.args.text.now c.in-Err.field-0 digits (rw c.in-Err.is at c.parse.ensures.value.0))
