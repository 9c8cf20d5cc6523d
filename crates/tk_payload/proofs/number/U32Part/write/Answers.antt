use Rattle.std.proofs.Common.{arith}
use Rattle.tk_payload.proofs.Numbers.{decimal_sound}
use Rattle.tk_payload.proofs.number.U32Part.write.Goals as goal

pub returns-clause-sound : goal.returns-clause-sound
returns-clause-sound c = decimal_sound _ c.args.self.now (omega arith)
