use Rattle.tk_machine.proofs.Rounds.{round_moves}
use Rattle.tk_machine.proofs.laws.fair_rounds_move.Goals as goal

pub returns : goal.returns
returns c = round_moves
