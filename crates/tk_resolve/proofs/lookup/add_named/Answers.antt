use Rattle.std.proofs.Common.{arith}
use Rattle.std.proofs.lemmas.Grind.{text_groups}
use Rattle.tk_resolve.proofs.lookup.add_named.Goals as goal

pub returns-clause-added : goal.returns-clause-added
returns-clause-added g c = λ wanted. grind (arith, text_groups)
