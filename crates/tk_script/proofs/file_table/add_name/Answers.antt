use Rattle.std.proofs.Common.{arith}
use Rattle.std.proofs.lemmas.Grind.{text_groups}
use Rattle.tk_script.proofs.file_table.add_name.Goals as goal

pub returns-then-is_err-clause-same : goal.returns-then-is_err-clause-same
returns-then-is_err-clause-same c = λ q. grind (arith, text_groups)

pub returns-clause-added : goal.returns-clause-added
returns-clause-added c = λ q. grind (arith, text_groups)
