use Rattle.tk_script.proofs.Tables.{same_texts}
use Rattle.tk_script.proofs.file_table.widen.Goals as goal

pub returns-clause-same : goal.returns-clause-same
returns-clause-same g c = λ q. same_texts c.args.table.now c.reserve.new.self c.reserve.ensures.entries.2 q
