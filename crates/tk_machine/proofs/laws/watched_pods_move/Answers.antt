use Rattle.tk_machine.proofs.Moves.{watched_moves}
use Rattle.tk_machine.proofs.laws.watched_pods_move.Goals as goal

pub returns : goal.returns
returns c = watched_moves
