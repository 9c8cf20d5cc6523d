use Rattle.tk_durable.proofs.OneJournal.{one_damage}
use Rattle.tk_durable.proofs.laws.one_damage.Goals as goal

pub returns : goal.returns
returns c = one_damage
