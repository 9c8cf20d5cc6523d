use Rattle.std.proofs.Common.{arith}
use Rattle.tk_durable.proofs.Blocks.{split, fits_in}
use Rattle.tk_durable.proofs.file.block_length.Goals as goal

pub returns-then-len-behind-clause-split : goal.returns-then-len-behind-clause-split
returns-then-len-behind-clause-split c =
    split c.args.tail.now c.from_le_bytes-len.result (fits_in c.from_le_bytes-len.result c.args.tail.now c.in-len8-up.len_at_least c.if-len-behind.true) (λ i. omega (arith, c.type_inv.tail i)) c.from_le_bytes-len.ensures
