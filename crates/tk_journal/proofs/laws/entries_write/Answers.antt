use Rattle.tk_journal.proofs.Made.{entries_write}
use Rattle.tk_journal.proofs.laws.entries_write.Goals as goal

pub returns : goal.returns
returns c = entries_write
