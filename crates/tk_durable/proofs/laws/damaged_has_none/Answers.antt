use Rattle.tk_durable.proofs.OneJournal.{damaged_has_none}
use Rattle.tk_durable.proofs.laws.damaged_has_none.Goals as goal

pub returns : goal.returns
returns c = damaged_has_none
