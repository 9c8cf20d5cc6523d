use Rattle.tk_durable.proofs.OneJournal.{one_journal}
use Rattle.tk_durable.proofs.laws.one_journal.Goals as goal

pub returns : goal.returns
returns c = one_journal
