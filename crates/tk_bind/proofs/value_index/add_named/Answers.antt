use Rattle.std.proofs.Common.{arith}
use Rattle.std.proofs.lemmas.Grind.{text_groups}
use Rattle.tk_bind.proofs.value_index.add_named.Goals as goal

pub returns : goal.returns
returns c = λ other. grind (arith, text_groups)
