use Rattle.std.proofs.Common.{arith}
use Rattle.std.proofs.lemmas.Grind.{text_groups}
use Rattle.tk_bind.proofs.results.add.Goals as goal

pub returns : goal.returns
returns c = λ task name. grind (arith, text_groups, c.in_ok-add_named.ensures name)
