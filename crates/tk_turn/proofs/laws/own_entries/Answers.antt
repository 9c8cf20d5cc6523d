use Rattle.tk_turn.proofs.Seats.{own_entries}
use Rattle.tk_turn.proofs.laws.own_entries.Goals as goal

pub returns : goal.returns
returns c = own_entries
