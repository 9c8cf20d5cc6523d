use Rattle.tk_turn.proofs.Seats.{turn_entries}
use Rattle.tk_turn.proofs.laws.turn_entries.Goals as goal

pub returns : goal.returns
returns c = turn_entries
